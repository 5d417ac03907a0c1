use Rattle.std.proofs.Common.{◌≡◌, ◌+ℤ◌, ◌*ℤ◌, ap₂, SFits, rules}
use Rattle.std.specs.Int.{w64, w128}
use Rattle.std.proofs.lemmas.Int.{to_z-of_z}
use Rattle.row_core.proofs.Sizes.{narrow_fit}
use Rattle.row_core.proofs.walk.narrow_both.Goals as goal

pub returns-clause-value : goal.returns-clause-value
returns-clause-value c =
    let k : SFits w128 c.args.sum.now.k = search rules in
    let n : SFits w128 c.args.sum.now.n = search rules in
    let left_fits : SFits w64 c.args.left = c.ranges.left in
    let right_fits : SFits w64 c.args.right = c.ranges.right in
    let first : SFits w64 c.narrow_product.result = record { sfits = c.narrow_product.type_inv } in
    let second : SFits w64 c.narrow_product-2.result = record { sfits = c.narrow_product-2.type_inv } in
    let left : c.narrow_product.result ≡ c.args.sum.now.k *ℤ c.args.left = simp to_z-of_z at c.narrow_product.ensures.value in
    let right : c.narrow_product-2.result ≡ c.args.sum.now.n *ℤ c.args.right = simp to_z-of_z at c.narrow_product-2.ensures.value in
    let fits : SFits w64 (c.narrow_product.result +ℤ c.narrow_product-2.result) =
    narrow_fit c.narrow_product.result c.narrow_product-2.result c.narrow_product.ensures.small c.narrow_product-2.ensures.small in
    simp to_z-of_z (ap₂ ◌+ℤ◌ left right)
