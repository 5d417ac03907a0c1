use Rattle.std.proofs.Common.{◌≡◌, ◌<◌, ◌^◌, ◌*◌, ◌∙◌, ap₂, ℤ, pos, ◌-ℤ◌, ◌+ℤ◌, nat_abs, cond, nat_eq, SFits, arith, rules}
use Rattle.std.specs.Int.{w64, w128}
use Rattle.std.proofs.lemmas.Int.{to_z-of_z, to_z_pos}
use Rattle.cert_checker.specs.Fronts.{weight_of_side}
use Rattle.cert_checker.proofs.Certificates.Columns.{pos-mul}
use Rattle.cert_checker.proofs.fronts.reduced.Goals as goal

pub returns-in-Under : goal.returns-in-Under
returns-in-Under c =
    let small : c.weight_of-weight.result < 2 ^ 16 = search rules in
    let cast = to_z_pos w64 c.weight_of-weight.result (omega (arith, small)) in
    let scale_fits : SFits w64 c.args.facts.now.scale = search rules in
    let weighted_fits : SFits w128 c.product-weighted.result = record { sfits = c.product-weighted.type_inv } in
    let shift_fits : SFits w128 c.product-shift.result = record { sfits = c.product-shift.type_inv } in
    let whole_fits : SFits w128 c.difference.result = record { sfits = c.difference.type_inv } in
    let weight = rw c.weight_at.ensures at c.weight_of-weight.ensures in
    let weighted : c.product-weighted.result ≡ pos (nat_abs c.args.scale * weight_of_side c.args.facts.now.rel c.args.side (cond (nat_eq c.args.facts.now.own c.args.level) c.args.facts.now.weight 0)) =
    rw (cast, weight) at (simp (to_z-of_z, c.ranges.scale) at c.product-weighted.ensures.value) ∙ pos-mul c.args.scale _ c.requires.above in
    let shift = simp (to_z-of_z, scale_fits, c.ranges.times) at c.product-shift.ensures.value in
    let whole = simp to_z-of_z at c.difference.ensures in
    rw c.in-Under.is (simp to_z-of_z (whole ∙ ap₂ (λ (a b : ℤ). a -ℤ b) (rw c.in-Under.is at weighted) shift))

pub returns-in-Over : goal.returns-in-Over
returns-in-Over c =
    let small : c.weight_of-weight.result < 2 ^ 16 = search rules in
    let cast = to_z_pos w64 c.weight_of-weight.result (omega (arith, small)) in
    let scale_fits : SFits w64 c.args.facts.now.scale = search rules in
    let weighted_fits : SFits w128 c.product-weighted.result = record { sfits = c.product-weighted.type_inv } in
    let shift_fits : SFits w128 c.product-shift.result = record { sfits = c.product-shift.type_inv } in
    let whole_fits : SFits w128 c.total.result = record { sfits = c.total.type_inv } in
    let weight = rw c.weight_at.ensures at c.weight_of-weight.ensures in
    let weighted : c.product-weighted.result ≡ pos (nat_abs c.args.scale * weight_of_side c.args.facts.now.rel c.args.side (cond (nat_eq c.args.facts.now.own c.args.level) c.args.facts.now.weight 0)) =
    rw (cast, weight) at (simp (to_z-of_z, c.ranges.scale) at c.product-weighted.ensures.value) ∙ pos-mul c.args.scale _ c.requires.above in
    let shift = simp (to_z-of_z, scale_fits, c.ranges.times) at c.product-shift.ensures.value in
    let whole = simp to_z-of_z at c.total.ensures.value in
    rw c.in-Over.is (simp to_z-of_z (whole ∙ ap₂ ◌+ℤ◌ (rw c.in-Over.is at weighted) shift))
