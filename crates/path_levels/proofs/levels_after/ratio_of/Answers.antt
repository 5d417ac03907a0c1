use Rattle.std.proofs.Common.{◌≡◌, ◌*ℤ◌, ◌<ℤ◌, ℤ, pos, rules, SFits, subst, sym}
use Rattle.std.specs.Int.{w64, w128}
use Rattle.std.proofs.lemmas.Int.{to_z-of_z}
use Rattle.frac_core.specs.Fraction.{IsFitting}
use Rattle.path_lines.specs.Numbers.{IsFactor}
use Rattle.path_levels.proofs.levels_after.ratio_of.Goals as goal
use Rattle.frac_core.proofs.Fitting.{fits-signed as one_fits}
use Rattle.frac_core.proofs.Numbers.{product-up as positive_product}

pub overflow_mul-sum : goal.overflow_mul-sum
overflow_mul-sum c =
    let own : SFits w64 c.args.sum.now.own = search rules in
    let unit : SFits w64 c.args.sum.now.unit = search rules in
    let scale : SFits w64 (c.args.sum.now.own *ℤ c.args.sum.now.unit) = one_fits (c.args.sum.now.own *ℤ c.args.sum.now.unit) c.requires.sum.scale in
    simp to_z-of_z scale

-- the two products, as they are passed
times_is : (c : goal.After-product-2) → c.product.result ≡ c.args.n *ℤ c.args.pivot.now.times
times_is c =
    let n : SFits w64 c.args.n = c.ranges.n in
    let times : SFits w64 c.args.pivot.now.times = search rules in
    simp to_z-of_z at c.product.ensures.value

over_is : (c : goal.After-product-2) → c.product-2.result ≡ (c.args.sum.now.own *ℤ c.args.sum.now.unit) *ℤ c.args.pivot.now.size
over_is c =
    let size : SFits w64 c.args.pivot.now.size = search rules in
    let own : SFits w64 c.args.sum.now.own = search rules in
    let unit : SFits w64 c.args.sum.now.unit = search rules in
    let scale : SFits w64 (c.args.sum.now.own *ℤ c.args.sum.now.unit) = one_fits (c.args.sum.now.own *ℤ c.args.sum.now.unit) c.requires.sum.scale in
    simp to_z-of_z at c.product-2.ensures.value

pub returns-clause-times : goal.returns-clause-times
returns-clause-times c =
    let product : SFits w128 c.product.result = record { sfits = c.product.type_inv } in
    simp to_z-of_z (times_is c)

pub returns-clause-over : goal.returns-clause-over
returns-clause-over c =
    let product : SFits w128 c.product-2.result = record { sfits = c.product-2.type_inv } in
    simp to_z-of_z (over_is c)

pub returns-clause-times_fit : goal.returns-clause-times_fit
returns-clause-times_fit c =
    let times : SFits w64 c.args.pivot.now.times = search rules in
    let product : SFits w128 c.product.result = record { sfits = c.product.type_inv } in
    let raw : IsFitting c.args.pivot.now.times → IsFactor c.product.result = simp to_z-of_z at c.product.ensures.factor in
    simp to_z-of_z (raw c.requires.pivot.times_fit)

pub returns-clause-over_fit : goal.returns-clause-over_fit
returns-clause-over_fit c =
    let size : SFits w64 c.args.pivot.now.size = search rules in
    let product : SFits w128 c.product-2.result = record { sfits = c.product-2.type_inv } in
    let raw : IsFitting c.args.pivot.now.size → IsFactor c.product-2.result = simp to_z-of_z at c.product-2.ensures.factor in
    simp to_z-of_z (raw c.requires.pivot.fits.0)

pub returns-clause-above : goal.returns-clause-above
returns-clause-above c =
    let product : SFits w128 c.product-2.result = record { sfits = c.product-2.type_inv } in
    simp to_z-of_z (subst (λ (z : ℤ). pos 0 <ℤ z) (sym (over_is c))
    (positive_product (c.args.sum.now.own *ℤ c.args.sum.now.unit) c.args.pivot.now.size (positive_product c.args.sum.now.own c.args.sum.now.unit c.requires.sum.own_above c.requires.sum.unit_above) c.requires.pivot.above))
