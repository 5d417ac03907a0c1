use Rattle.std.proofs.Common.{◌≡◌, ◌+ℤ◌, ◌*ℤ◌, ap₂, SFits}
use Rattle.std.specs.Int.{w64, w128}
use Rattle.std.proofs.lemmas.Int.{to_z-of_z}
use Rattle.frac_core.proofs.Products.{sum_fits}
use Rattle.path_lines.proofs.numbers.both.Goals as goal

pub overflow_add-result : goal.overflow_add-result
overflow_add-result c =
    let first : SFits w128 c.product.result = record { sfits = c.product.type_inv } in
    let second : SFits w128 c.product-2.result = record { sfits = c.product-2.type_inv } in
    simp to_z-of_z (sum_fits c.product.result c.product-2.result c.product.ensures.small c.product-2.ensures.small)

pub returns : goal.returns
returns c =
    let k : SFits w128 c.args.k = c.ranges.k in
    let m : SFits w128 c.args.m = c.ranges.m in
    let left_fits : SFits w64 c.args.left = c.ranges.left in
    let right_fits : SFits w64 c.args.right = c.ranges.right in
    let first : SFits w128 c.product.result = record { sfits = c.product.type_inv } in
    let second : SFits w128 c.product-2.result = record { sfits = c.product-2.type_inv } in
    let left : c.product.result ≡ c.args.k *ℤ c.args.left = simp to_z-of_z at c.product.ensures.value in
    let right : c.product-2.result ≡ c.args.m *ℤ c.args.right = simp to_z-of_z at c.product-2.ensures.value in
    let fits : SFits w128 (c.product.result +ℤ c.product-2.result) = sum_fits c.product.result c.product-2.result c.product.ensures.small c.product-2.ensures.small in
    simp to_z-of_z (ap₂ ◌+ℤ◌ left right)
