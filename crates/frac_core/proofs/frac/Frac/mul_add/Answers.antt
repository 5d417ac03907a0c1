use Rattle.std.proofs.Common.{◌≡◌, ◌*ℤ◌, ◌+ℤ◌, SFits, ap₂, rules, pos, to_z, of_z}
use Rattle.std.specs.Int.{w128, w64}
use Rattle.std.proofs.lemmas.Int.{to_z-of_z}
use Rattle.frac_core.specs.Fraction.{IsKept, sum_num, sum_den}
use Rattle.frac_core.proofs.Products.{sum_fits, product_above, above_zero}
use Rattle.frac_core.proofs.frac.Frac.mul_add.Goals as goal

pub overflow_add-first : goal.overflow_add-first
overflow_add-first c =
    let first : SFits w128 c.product-first.result = record { sfits = c.product-first.type_inv } in
    let second : SFits w128 c.product-second.result = record { sfits = c.product-second.type_inv } in
    simp to_z-of_z (sum_fits c.product-first.result c.product-second.result c.product-first.ensures.small c.product-second.ensures.small)

-- the numerator and the denominator of the sum, as they are passed on
first_is : (c : goal.After-product) → c.product-first.result ≡ c.args.a.num *ℤ (c.args.d *ℤ pos c.args.t.den)
first_is c =
    let num : SFits w64 c.num.result = record { sfits = c.num.type_inv } in
    let den : SFits w64 c.den.result = record { sfits = c.den.type_inv } in
    let d : SFits w64 c.args.d = c.ranges.d in
    rw (c.num.ensures.value, c.den.ensures.value) at simp to_z-of_z at c.product-first.ensures.value

second_is : (c : goal.After-product) → c.product-second.result ≡ c.args.n *ℤ (c.args.t.num *ℤ pos c.args.a.den)
second_is c =
    let num : SFits w64 c.num-2.result = record { sfits = c.num-2.type_inv } in
    let den : SFits w64 c.den-2.result = record { sfits = c.den-2.type_inv } in
    let n : SFits w64 c.args.n = c.ranges.n in
    rw (c.num-2.ensures.value, c.den-2.ensures.value) at simp to_z-of_z at c.product-second.ensures.value

den_is : (c : goal.After-product) → c.product.result ≡ sum_den c.args.a c.args.d c.args.t
den_is c =
    let left : SFits w64 c.den-3.result = record { sfits = c.den-3.type_inv } in
    let right : SFits w64 c.den-4.result = record { sfits = c.den-4.type_inv } in
    let d : SFits w64 c.args.d = c.ranges.d in
    rw (c.den-3.ensures.value, c.den-4.ensures.value) at simp to_z-of_z at c.product.ensures.value

passed_den : (c : goal.After-product) → to_z w128 (of_z w128 c.product.result) ≡ sum_den c.args.a c.args.d c.args.t
passed_den c =
    let den : SFits w128 c.product.result = record { sfits = c.product.type_inv } in
    simp to_z-of_z (den_is c)

passed_num : (c : goal.After-product) →
    to_z w128 (of_z w128 (to_z w128 (of_z w128 c.product-first.result) +ℤ to_z w128 (of_z w128 c.product-second.result))) ≡ sum_num c.args.a c.args.n c.args.d c.args.t
passed_num c =
    let first : SFits w128 c.product-first.result = record { sfits = c.product-first.type_inv } in
    let second : SFits w128 c.product-second.result = record { sfits = c.product-second.type_inv } in
    let both : SFits w128 (c.product-first.result +ℤ c.product-second.result) =
    sum_fits c.product-first.result c.product-second.result c.product-first.ensures.small c.product-second.ensures.small in
    simp to_z-of_z (ap₂ ◌+ℤ◌ (first_is c) (second_is c))

pub of-requires : goal.of-requires
of-requires c =
    let a : IsKept c.args.a = search rules in
    let t : IsKept c.args.t = search rules in
    rw (passed_den c) (product_above (pos c.args.a.den) c.args.d (pos c.args.t.den) (above_zero c.args.a.den a.lowest.above) c.requires.above (above_zero c.args.t.den t.lowest.above))

pub returns-clause-value : goal.returns-clause-value
returns-clause-value c = rw (passed_num c.before, passed_den c.before) at c.of.ensures.value

pub returns-clause-unfit : goal.returns-clause-unfit
returns-clause-unfit c = rw (passed_num c.before, passed_den c.before) at c.of.ensures.unfit
