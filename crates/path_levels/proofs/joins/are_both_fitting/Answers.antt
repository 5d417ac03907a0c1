use Rattle.std.proofs.Common.{◌≡◌, ◌∙◌, ◌+ℤ◌, ◌-ℤ◌, ap, subst, sym, ℤ, SFits}
use Rattle.std.specs.Prelude.{◌↔◌, IsTrue}
use Rattle.std.specs.Int.{w128}
use Rattle.std.proofs.lemmas.Int.{to_z-of_z}
use Rattle.frac_core.specs.Fraction.{IsFitting}
use Rattle.path_levels.proofs.joins.are_both_fitting.Goals as goal

pub returns-then-is_fitting : goal.returns-then-is_fitting
returns-then-is_fitting c =
    let u : SFits w128 c.args.under = c.ranges.under in
    let o : SFits w128 c.args.over = c.ranges.over in
    let f : SFits w128 c.from-number.result = record { sfits = c.from-number.type_inv } in
    let d : SFits w128 c.difference.result = record { sfits = c.difference.type_inv } in
    let s : SFits w128 c.sum.result = record { sfits = c.sum.type_inv } in
    let n : c.from-number.result ≡ c.args.number = simp (to_z-of_z, c.ranges.number) at c.from-number.ensures in
    let di : c.difference.result ≡ c.args.under -ℤ c.args.number = simp to_z-of_z at c.difference.ensures ∙ ap (λ (z : ℤ). c.args.under -ℤ z) n in
    let si : c.sum.result ≡ c.args.over +ℤ c.args.number = simp to_z-of_z at c.sum.ensures ∙ ap (λ (z : ℤ). c.args.over +ℤ z) n in
    let first : IsTrue c.is_fitting.result ↔ IsFitting c.difference.result = simp to_z-of_z at c.is_fitting.ensures in
    let second : IsTrue c.is_fitting-then-is_fitting.result ↔ IsFitting c.sum.result = simp to_z-of_z at c.is_fitting-then-is_fitting.ensures in
    ((λ t. (subst (λ (z : ℤ). IsFitting z) di (first.0 c.if-is_fitting.true), subst (λ (z : ℤ). IsFitting z) si (second.0 t))), (λ h. second.1 (subst (λ (z : ℤ). IsFitting z) (sym si) h.1)))
