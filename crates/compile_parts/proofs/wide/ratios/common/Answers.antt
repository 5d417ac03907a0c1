use Rattle.std.proofs.Common.{◌≡◌, ◌<◌, ◌≤◌, ◌*◌, ◌^◌, ℤ, ◌+ℤ◌, ◌*ℤ◌, SFits, arith, unsigned_abs, ap₂, rules}
use Rattle.std.specs.Prelude.{FitsSigned}
use Rattle.std.specs.Int.{w128}
use borrow.Author.Differences.{ints}
use Rattle.std.proofs.lemmas.Int.{to_z-of_z, fits_signed_from_abs}
use Rattle.frac_core.proofs.Integers.{positive_from}
use Rattle.compile_parts.specs.Quotients.{IsReduced}
use Rattle.compile_parts.proofs.Shifts.{common_small, common_divided}
use Rattle.compile_parts.proofs.wide.ratios.common.Goals as goal

large : (x y : ℤ) → 2 ^ 112 ≤ unsigned_abs x * unsigned_abs y → unsigned_abs x * unsigned_abs y < 2 ^ 112 → ⊥
large x y h k = omega (arith, h, k)

pub returns-in_err-left-clause-none : goal.returns-in_err-left-clause-none
returns-in_err-left-clause-none c = rw c.from_residual.ensures (λ f lowest ratio num_small den_small.
    let num_fits : SFits w128 c.reduced-shares.result.num = search rules in
    let den_fits : SFits w128 c.reduced-shares.result.den = search rules in
    let past : 2 ^ 112 ≤ unsigned_abs c.args.a * unsigned_abs c.reduced-shares.result.den = simp (to_z-of_z, c.ranges.a, den_fits) at c.in_err-left.ensures.large in
    let is : IsReduced c.args.b c.args.y c.reduced-shares.result.num c.reduced-shares.result.den = simp (to_z-of_z, c.ranges.b, c.ranges.y) at c.reduced-shares.ensures in
    large c.args.a c.reduced-shares.result.den past (common_small c.args.a c.args.b c.args.x c.args.y c.reduced-shares.result.num c.reduced-shares.result.den f c.requires.a c.requires.b c.requires.b_above c.requires.y_above c.requires.apart is lowest ratio num_small den_small).left)

pub bounded-requires-2 : goal.bounded-requires-2
bounded-requires-2 c =
    let num_fits : SFits w128 c.reduced-shares.result.num = search rules in
    let is : IsReduced c.args.b c.args.y c.reduced-shares.result.num c.reduced-shares.result.den = simp (to_z-of_z, c.ranges.b, c.ranges.y) at c.reduced-shares.ensures in
    simp (to_z-of_z, num_fits) (positive_from is.divided.divisor c.reduced-shares.result.num (rw is.divided.num c.requires.b_above))

pub returns-in_err-right-clause-none : goal.returns-in_err-right-clause-none
returns-in_err-right-clause-none c = rw c.from_residual-in_err-right.ensures (λ f lowest ratio num_small den_small.
    let num_fits : SFits w128 c.reduced-shares.result.num = search rules in
    let den_fits : SFits w128 c.reduced-shares.result.den = search rules in
    let past : 2 ^ 112 ≤ unsigned_abs c.args.x * unsigned_abs c.reduced-shares.result.num = simp (to_z-of_z, c.ranges.x, num_fits) at c.in_err-right.ensures.large in
    let is : IsReduced c.args.b c.args.y c.reduced-shares.result.num c.reduced-shares.result.den = simp (to_z-of_z, c.ranges.b, c.ranges.y) at c.reduced-shares.ensures in
    large c.args.x c.reduced-shares.result.num past (common_small c.args.a c.args.b c.args.x c.args.y c.reduced-shares.result.num c.reduced-shares.result.den f c.requires.a c.requires.b c.requires.b_above c.requires.y_above c.requires.apart is lowest ratio num_small den_small).right)

pub returns-in_err-den-clause-none : goal.returns-in_err-den-clause-none
returns-in_err-den-clause-none c = rw c.from_residual-in_err-den.ensures (λ f lowest ratio num_small den_small.
    let num_fits : SFits w128 c.reduced-shares.result.num = search rules in
    let den_fits : SFits w128 c.reduced-shares.result.den = search rules in
    let past : 2 ^ 112 ≤ unsigned_abs c.args.b * unsigned_abs c.reduced-shares.result.den = simp (to_z-of_z, c.ranges.b, den_fits) at c.in_err-den.ensures.large in
    let is : IsReduced c.args.b c.args.y c.reduced-shares.result.num c.reduced-shares.result.den = simp (to_z-of_z, c.ranges.b, c.ranges.y) at c.reduced-shares.ensures in
    large c.args.b c.reduced-shares.result.den past (common_small c.args.a c.args.b c.args.x c.args.y c.reduced-shares.result.num c.reduced-shares.result.den f c.requires.a c.requires.b c.requires.b_above c.requires.y_above c.requires.apart is lowest ratio num_small den_small).den)

sum_fits : (x y : ℤ) → unsigned_abs x < 2 ^ 112 → unsigned_abs y < 2 ^ 112 → FitsSigned w128 (x +ℤ y)
sum_fits x y h k = fits_signed_from_abs w128 (x +ℤ y) (omega (arith, ints, h, k))

pub returns-clause-some : goal.returns-clause-some
returns-clause-some c =
    let num_fits : SFits w128 c.reduced-shares.result.num = search rules in
    let den_fits : SFits w128 c.reduced-shares.result.den = search rules in
    let left_fits : SFits w128 c.in_ok-left.left = fits_signed_from_abs w128 c.in_ok-left.left (omega (arith, c.in_ok-left.ensures.small)) in
    let right_fits : SFits w128 c.in_ok-right.right = fits_signed_from_abs w128 c.in_ok-right.right (omega (arith, c.in_ok-right.ensures.small)) in
    let bottom_fits : SFits w128 c.in_ok-den.den = fits_signed_from_abs w128 c.in_ok-den.den (omega (arith, c.in_ok-den.ensures.small)) in
    let both : SFits w128 (c.in_ok-left.left +ℤ c.in_ok-right.right) = sum_fits c.in_ok-left.left c.in_ok-right.right c.in_ok-left.ensures.small c.in_ok-right.ensures.small in
    let is : IsReduced c.args.b c.args.y c.reduced-shares.result.num c.reduced-shares.result.den = simp (to_z-of_z, c.ranges.b, c.ranges.y) at c.reduced-shares.ensures in
    let left : c.in_ok-left.left ≡ c.args.a *ℤ c.reduced-shares.result.den = simp (to_z-of_z, c.ranges.a, den_fits) at c.in_ok-left.ensures.value in
    let right : c.in_ok-right.right ≡ c.args.x *ℤ c.reduced-shares.result.num = simp (to_z-of_z, c.ranges.x, num_fits) at c.in_ok-right.ensures.value in
    let bottom : c.in_ok-den.den ≡ c.args.b *ℤ c.reduced-shares.result.den = simp (to_z-of_z, c.ranges.b, den_fits) at c.in_ok-den.ensures.value in
    simp (to_z-of_z, left_fits, right_fits, both, bottom_fits) (common_divided c.args.a c.args.b c.args.x c.args.y c.reduced-shares.result.num c.reduced-shares.result.den (c.in_ok-left.left +ℤ c.in_ok-right.right) c.in_ok-den.den c.requires.b_above is (ap₂ ◌+ℤ◌ left right) bottom)
