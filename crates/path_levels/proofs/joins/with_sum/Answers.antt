use Rattle.std.proofs.Common.{◌≡◌, ◌∙◌, ◌*◌, ◌*ℤ◌, ◌<◌, ◌<ℤ◌, ◌^◌, ap, subst, sym, pos, ℤ, unsigned_abs, SFits, rules, arith, w64, ℕ}
use Rattle.std.specs.Int.{w128}
use Rattle.std.proofs.lemmas.Int.{to_z-of_z, unsigned_abs-mul}
use Rattle.frac_core.specs.Fraction.{IsFitting}
use Rattle.path_lines.specs.Numbers.{IsCombined}
use Rattle.path_levels.specs.Joins.{counted_number}
use Rattle.path_levels.proofs.Exchanges.CarriedFacts.{own_small}
use Rattle.path_levels.proofs.Joining.JoinShares.{risen_scale, unit_bound}
use Rattle.path_levels.proofs.joins.with_sum.Goals as goal
use Rattle.frac_core.proofs.Numbers.{product-up as positive_product}

pub product-unit-requires-clause-small : goal.product-unit-requires-clause-small
product-unit-requires-clause-small c = simp (to_z-of_z, c.ranges.times) (omega (arith, c.requires.times))

pub product-unit-requires-clause-other : goal.product-unit-requires-clause-other
product-unit-requires-clause-other c =
    let unit : SFits w64 c.args.old.now.unit = search rules in
    let small : IsFitting c.args.old.now.unit = unit_bound c.args.old.now.own c.args.old.now.unit _ c.requires.old.own_above c.requires.old.scale in
    simp to_z-of_z (omega (arith, small))

-- the unit after the join
unit_is : (c : goal.After-counted-arg-2-1) → c.product-unit.result ≡ c.args.times *ℤ c.args.old.now.unit
unit_is c =
    let times : SFits w64 c.args.times = c.ranges.times in
    let unit : SFits w64 c.args.old.now.unit = search rules in
    simp to_z-of_z at c.product-unit.ensures.value

pub counted-number-requires-clause-unit : goal.counted-number-requires-clause-unit
counted-number-requires-clause-unit c =
    let p : SFits w128 c.product-unit.result = record { sfits = c.product-unit.type_inv } in
    simp to_z-of_z (subst (λ (z : ℤ). pos 0 <ℤ z) (sym (unit_is c)) (positive_product c.args.times c.args.old.now.unit c.requires.above c.requires.old.unit_above))

pub counted-number-requires-clause-scale : goal.counted-number-requires-clause-scale
counted-number-requires-clause-scale c =
    let p : SFits w128 c.product-unit.result = record { sfits = c.product-unit.type_inv } in
    let own : SFits w64 c.args.old.now.own = search rules in
    simp to_z-of_z (subst (λ (z : ℤ). unsigned_abs (c.args.old.now.own *ℤ z) < 2 ^ 72) (sym (unit_is c)) (risen_scale c.args.old.now.own c.args.times c.args.old.now.unit c.requires.times c.requires.old.scale))

pub product-requires-clause-other : goal.product-requires-clause-other
product-requires-clause-other c =
    let own : SFits w64 c.args.old.now.own = search rules in
    let small : IsFitting c.args.old.now.own = own_small c.args.old.now.own c.args.old.now.unit c.requires.old.unit_above c.requires.old.scale in
    simp to_z-of_z (omega (arith, small))

pub combined-requires-clause-k : goal.combined-requires-clause-k
combined-requires-clause-k c =
    let p : SFits w128 c.product-factor.result = record { sfits = c.product-factor.type_inv } in
    simp to_z-of_z (c.product-factor.ensures.factor (simp (to_z-of_z, c.ranges.times) (omega (arith, c.requires.times))))

pub combined-requires-clause-left : goal.combined-requires-clause-left
combined-requires-clause-left c = rw c.deref.ensures.value c.requires.old.fits

pub combined-requires-clause-right : goal.combined-requires-clause-right
combined-requires-clause-right c = rw c.deref-2.ensures.value c.requires.inside.fits.1

pub returns-clause-own : goal.returns-clause-own
returns-clause-own c =
    let p : SFits w128 c.product.result = record { sfits = c.product.type_inv } in
    let size : SFits w64 c.args.inside.now.sum.own = search rules in
    let own : SFits w64 c.args.old.now.own = search rules in
    simp to_z-of_z (simp to_z-of_z at c.product.ensures.value)

pub returns-clause-by : goal.returns-clause-by
returns-clause-by c =
    let times : SFits w64 c.args.times = c.ranges.times in
    let unit : SFits w64 c.args.old.now.unit = search rules in
    let own : SFits w64 c.args.old.now.own = search rules in
    let size : SFits w64 c.args.inside.now.sum.own = search rules in
    let p : SFits w128 c.product-unit.result = record { sfits = c.product-unit.type_inv } in
    let q : SFits w128 c.product-factor.result = record { sfits = c.product-factor.type_inv } in
    let n : SFits w128 c.counted-number.result = record { sfits = c.counted-number.type_inv } in
    let unit_is : c.product-unit.result ≡ c.args.times *ℤ c.args.old.now.unit = simp to_z-of_z at c.product-unit.ensures.value in
    let factor_is : c.product-factor.result ≡ c.args.inside.now.sum.own *ℤ c.args.times = simp to_z-of_z at c.product-factor.ensures.value in
    let raw : c.counted-number.result ≡ counted_number c.args.inside.now.side c.args.line (unsigned_abs c.product-unit.result) (unsigned_abs c.args.old.now.own) = simp to_z-of_z at c.counted-number.ensures.value in
    let number_is : c.counted-number.result ≡ counted_number c.args.inside.now.side c.args.line (unsigned_abs c.args.times * unsigned_abs c.args.old.now.unit) (unsigned_abs c.args.old.now.own) =
    raw ∙ ap (λ (n : ℕ). counted_number c.args.inside.now.side c.args.line n (unsigned_abs c.args.old.now.own)) (ap unsigned_abs unit_is ∙ unsigned_abs-mul c.args.times c.args.old.now.unit) in
    let made : IsCombined c.product-factor.result c.deref.result.now c.counted-number.result c.deref-2.result.now c.in_ok-combined.field-0.items = simp to_z-of_z at c.in_ok-combined.ensures in
    rw (← factor_is, ← number_is, ← c.deref.ensures.value, ← c.deref-2.ensures.value) made
