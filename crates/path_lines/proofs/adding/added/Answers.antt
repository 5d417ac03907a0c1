use Rattle.std.proofs.Common.{◌≡◌, ◌<◌, ◌^◌, ◌+ℤ◌, ◌*ℤ◌, ℤ, ap₂, rules, arith, SFits}
use Rattle.std.specs.Prelude.{unsigned_abs}
use Rattle.std.specs.Int.{w64, w128}
use Rattle.std.proofs.lemmas.Int.{to_z-of_z}
use Rattle.frac_core.specs.Fraction.{IsFitting}
use Rattle.frac_core.proofs.Fitting.{fits-word}
use Rattle.frac_core.proofs.Products.{sum_fits}
use Rattle.path_lines.proofs.adding.added.Goals as goal

pub returns-clause-sum : goal.returns-clause-sum
returns-clause-sum c =
    let from_is : c.from.result ≡ c.args.number = search rules in
    let product_is : c.pair_product.result ≡ c.args.factor *ℤ c.args.other = search rules in
    let from : SFits w128 c.from.result = record { sfits = c.from.type_inv } in
    let product : SFits w128 c.pair_product.result = record { sfits = c.pair_product.type_inv } in
    let from_small : unsigned_abs c.from.result < 2 ^ 126 = rw from_is (omega (arith, c.requires.number)) in
    let small : unsigned_abs c.pair_product.result < 2 ^ 126 = omega (arith, c.pair_product.ensures.small) in
    let both : SFits w128 (c.from.result +ℤ c.pair_product.result) = sum_fits c.from.result c.pair_product.result from_small small in
    let size : c.unsigned_abs.result ≡ unsigned_abs (c.from.result +ℤ c.pair_product.result) = simp to_z-of_z at c.unsigned_abs.ensures.value in
    let fits : IsFitting (c.from.result +ℤ c.pair_product.result) = omega (arith, size, c.if-unsigned_abs-ge-PART_BOUND.false) in
    let word : SFits w64 (c.from.result +ℤ c.pair_product.result) = fits-word (c.from.result +ℤ c.pair_product.result) fits in
    simp to_z-of_z (ap₂ (λ (x y : ℤ). x +ℤ y) from_is product_is)
