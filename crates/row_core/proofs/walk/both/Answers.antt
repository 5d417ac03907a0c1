use Rattle.std.proofs.Common.{◌≡◌, ◌+ℤ◌, ◌*ℤ◌, ap₂, SFits, rules}
use Rattle.std.specs.Int.{w64, w128}
use Rattle.std.proofs.lemmas.Int.{to_z-of_z}
use Rattle.row_core.proofs.Sizes.{rows_fit}
use Rattle.row_core.proofs.walk.both.Goals as goal

pub returns-clause-value : goal.returns-clause-value
returns-clause-value c =
    let k : SFits w128 c.args.sum.now.k = search rules in
    let n : SFits w128 c.args.sum.now.n = search rules in
    let left_fits : SFits w64 c.args.left = c.ranges.left in
    let right_fits : SFits w64 c.args.right = c.ranges.right in
    let first : SFits w128 c.product.result = record { sfits = c.product.type_inv } in
    let second : SFits w128 c.product-2.result = record { sfits = c.product-2.type_inv } in
    let left : c.product.result ≡ c.args.sum.now.k *ℤ c.args.left = simp to_z-of_z at c.product.ensures.value in
    let right : c.product-2.result ≡ c.args.sum.now.n *ℤ c.args.right = simp to_z-of_z at c.product-2.ensures.value in
    let fits : SFits w128 (c.product.result +ℤ c.product-2.result) =
    rw (left, right) (rows_fit (c.args.sum.now.k *ℤ c.args.left) (c.args.sum.now.n *ℤ c.args.right) c.requires.left c.requires.right) in
    simp to_z-of_z (ap₂ ◌+ℤ◌ left right)
