use Rattle.std.proofs.Common.{◌≡◌, ◌∙◌, ◌*◌, ◌/◌, ◌+ℤ◌, ◌-ℤ◌, ap₂, subst, ℤ, pos, unsigned_abs, SFits, rules, w64}
use Rattle.std.specs.Prelude.{◌↔◌, IsTrue}
use Rattle.std.specs.Int.{w128}
use Rattle.std.proofs.lemmas.Int.{to_z-of_z}
use Rattle.frac_core.specs.Fraction.{IsFitting}
use Rattle.path_levels.proofs.joins.are_fitting.Goals as goal

pub returns-in-Some : goal.returns-in-Some
returns-in-Some c =
    let a : SFits w128 c.args.unit = c.ranges.unit in
    let b : SFits w64 c.args.own = c.ranges.own in
    let u : SFits w128 c.count-under.result = record { sfits = c.count-under.type_inv } in
    let o : SFits w128 c.count-over.result = record { sfits = c.count-over.type_inv } in
    let s : SFits w128 c.sum.result = record { sfits = c.sum.type_inv } in
    let x : SFits w64 c.args.line.under = search rules in
    let z : SFits w64 c.args.line.over = search rules in
    let y : SFits w64 c.args.line.scale = search rules in
    let ui : c.count-under.result ≡ pos (unsigned_abs c.args.own * (unsigned_abs c.args.unit * unsigned_abs c.args.line.under / unsigned_abs c.args.line.scale)) = simp to_z-of_z at c.count-under.ensures.value in
    let oi : c.count-over.result ≡ pos (unsigned_abs c.args.own * (unsigned_abs c.args.unit * unsigned_abs c.args.line.over / unsigned_abs c.args.line.scale)) = simp to_z-of_z at c.count-over.ensures.value in
    let si = simp to_z-of_z at c.sum.ensures ∙ ap₂ ◌+ℤ◌ ui oi in
    let all : IsTrue c.is_fitting.result ↔ IsFitting c.sum.result = simp to_z-of_z at c.is_fitting.ensures in
    rw c.in-Some.is (subst (λ (z : ℤ). IsTrue c.is_fitting.result ↔ IsFitting z) si all)

pub returns-in-None : goal.returns-in-None
returns-in-None c =
    let a : SFits w128 c.args.unit = c.ranges.unit in
    let b : SFits w64 c.args.own = c.ranges.own in
    let n : SFits w64 c.args.number = c.ranges.number in
    let u : SFits w128 c.count-under.result = record { sfits = c.count-under.type_inv } in
    let o : SFits w128 c.count-over.result = record { sfits = c.count-over.type_inv } in
    let x : SFits w64 c.args.line.under = search rules in
    let z : SFits w64 c.args.line.over = search rules in
    let y : SFits w64 c.args.line.scale = search rules in
    let ui : c.count-under.result ≡ pos (unsigned_abs c.args.own * (unsigned_abs c.args.unit * unsigned_abs c.args.line.under / unsigned_abs c.args.line.scale)) = simp to_z-of_z at c.count-under.ensures.value in
    let oi : c.count-over.result ≡ pos (unsigned_abs c.args.own * (unsigned_abs c.args.unit * unsigned_abs c.args.line.over / unsigned_abs c.args.line.scale)) = simp to_z-of_z at c.count-over.ensures.value in
    let all : IsTrue c.are_both_fitting.result ↔ (IsFitting (c.count-under.result -ℤ c.args.number) × IsFitting (c.count-over.result +ℤ c.args.number)) = simp to_z-of_z at c.are_both_fitting.ensures in
    rw c.in-None.is
    (subst (λ (v : ℤ). IsTrue c.are_both_fitting.result ↔ (IsFitting (pos (unsigned_abs c.args.own * (unsigned_abs c.args.unit * unsigned_abs c.args.line.under / unsigned_abs c.args.line.scale)) -ℤ c.args.number) × IsFitting (v +ℤ c.args.number))) oi
    (subst (λ (v : ℤ). IsTrue c.are_both_fitting.result ↔ (IsFitting (v -ℤ c.args.number) × IsFitting (c.count-over.result +ℤ c.args.number))) ui all))
