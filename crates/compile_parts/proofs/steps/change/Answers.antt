use Rattle.std.proofs.Common.{◌≡◌, ◌<◌, ◌≤◌, ◌^◌, ℤ, ◌*ℤ◌, SFits, arith, unsigned_abs, rules}
use Rattle.std.specs.Int.{w64, w128}
use Rattle.std.proofs.lemmas.Int.{to_z-of_z, fits_signed_mul}
use Rattle.compile_parts.specs.Quotients.{IsReduced}
use Rattle.compile_parts.proofs.steps.change.Goals as goal

product_fits : (x y : ℤ) → unsigned_abs x ≤ 2 ^ 30 → unsigned_abs y < 2 ^ 88 → SFits w128 (x *ℤ y)
product_fits x y h k = fits_signed_mul w128 x y 1073741824 309485009821345068724781056 (omega (arith, h)) (omega (arith, k)) (omega arith)

pub returns : goal.returns
returns c =
    let value_fits : SFits w128 c.args.value.num = search rules in
    let den_fits : SFits w128 c.args.value.den = search rules in
    let negative_fits : SFits w64 c.negative.result = record { sfits = c.negative.type_inv } in
    let from_fits : SFits w128 c.from.result = record { sfits = c.from.type_inv } in
    let from_is : c.from.result ≡ c.negative.result = simp (to_z-of_z, negative_fits) at c.from.ensures in
    let both : SFits w128 (c.from.result *ℤ c.args.value.num) = rw from_is (product_fits c.negative.result c.args.value.num c.negative.ensures.small c.requires.small) in
    let is : IsReduced (c.from.result *ℤ c.args.value.num) c.args.value.den c.reduced.result.num c.reduced.result.den = simp (to_z-of_z, value_fits, den_fits, from_fits, both) at c.reduced.ensures in
    rw (from_is, c.negative.ensures.value) at is
