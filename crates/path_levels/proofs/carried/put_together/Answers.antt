use Rattle.std.proofs.Common.{◌≡◌, ◌∙◌, ◌*ℤ◌, arith, rules, SFits, refl}
use Rattle.std.specs.Int.{w64, w128}
use Rattle.std.proofs.lemmas.Int.{to_z-of_z}
use Rattle.frac_core.specs.Fraction.{IsFitting}
use Rattle.path_lines.specs.Numbers.{IsCombined}
use Rattle.path_levels.proofs.Exchanges.CarriedFacts.{own_small, wide_carried, wide_sized}
use Rattle.path_levels.proofs.carried.put_together.Goals as goal

pub product-own-requires-clause-other : goal.product-own-requires-clause-other
product-own-requires-clause-other c =
    let own : SFits w64 c.args.sum.now.own = search rules in
    let fits : IsFitting c.args.sum.now.own = own_small c.args.sum.now.own c.args.sum.now.unit c.requires.sum.unit_above c.requires.sum.scale in
    rw (to_z-of_z w64 c.args.sum.now.own own) (omega (arith, fits))

-- the numbers and the own one that are put together
made : (c : goal.After-product-own) → IsCombined c.args.factors.row c.args.sum.now.by.items c.args.factors.pivot c.args.pivot.now.by.items c.in_ok-by.by.items × (c.product-own.result ≡ c.args.factors.row *ℤ c.args.sum.now.own)
made c =
    let row : SFits w64 c.args.factors.row = search rules in
    let factor : SFits w64 c.args.factors.pivot = search rules in
    let own : SFits w64 c.args.sum.now.own = search rules in
    let row_is : c.from-row.result ≡ c.args.factors.row = simp to_z-of_z at c.from-row.ensures in
    let factor_is : c.from-factor.result ≡ c.args.factors.pivot = simp to_z-of_z at c.from-factor.ensures in
    let row_fits : SFits w128 c.from-row.result = record { sfits = c.from-row.type_inv } in
    let factor_fits : SFits w128 c.from-factor.result = record { sfits = c.from-factor.type_inv } in
    let left : c.deref.result.now ≡ c.args.sum.now.by.items = search rules in
    let right : c.deref-2.result.now ≡ c.args.pivot.now.by.items = search rules in
    let raw : IsCombined c.from-row.result c.deref.result.now c.from-factor.result c.deref-2.result.now c.in_ok-by.by.items = simp to_z-of_z at c.in_ok-by.ensures in
    (rw (row_is, factor_is, left, right) at raw, simp to_z-of_z at c.product-own.ensures.value)

pub returns-clause-sized : goal.returns-clause-sized
returns-clause-sized c =
    let leaving : SFits w128 c.args.leaving = c.ranges.leaving in
    let product : SFits w128 c.product-own.result = record { sfits = c.product-own.type_inv } in
    wide_sized c.args.pivot.now c.args.sum.now c.args.factors c.args.leaving c.product-own.result c.in_ok-by.by.items _ c.requires.pivot c.requires.sum c.requires.above c.requires.row c.requires.factor c.requires.leaving (made c).0
    (to_z-of_z w128 c.product-own.result product ∙ (made c).1) (simp to_z-of_z refl)

pub returns-clause-carried : goal.returns-clause-carried
returns-clause-carried c =
    let leaving : SFits w128 c.args.leaving = c.ranges.leaving in
    let product : SFits w128 c.product-own.result = record { sfits = c.product-own.type_inv } in
    wide_carried c.args.pivot.now c.args.sum.now c.args.factors c.args.leaving c.in_ok-by.by.items _ c.requires.pivot (made c).0
    (to_z-of_z w128 c.product-own.result product ∙ (made c).1) (simp to_z-of_z refl)
