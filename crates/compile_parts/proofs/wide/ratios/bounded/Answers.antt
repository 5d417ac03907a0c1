use Rattle.std.proofs.Common.{◌≡◌, ℕ, ◌<◌, ◌≤◌, ◌*◌, ◌^◌, ℤ, pos, ◌*ℤ◌, ◌<ℤ◌, SFits, arith, refl, unsigned_abs}
use Rattle.std.specs.Prelude.{FitsSigned}
use Rattle.std.specs.Int.{w128}
use borrow.Author.Differences.{ints}
use Rattle.std.proofs.lemmas.Int.{to_z-of_z, fits_signed_from_abs, unsigned_abs-mul}
use Rattle.compile_parts.proofs.wide.ratios.bounded.Goals as goal

size : (x y : ℤ) (a b : ℕ) → a ≡ unsigned_abs x → b ≡ unsigned_abs y → a * b < 2 ^ 112 → unsigned_abs (x *ℤ y) < 2 ^ 112
size x y a b x_is y_is h =
    let within : unsigned_abs x * unsigned_abs y < 2 ^ 112 = rw (x_is, y_is) at h in
    omega (arith, unsigned_abs-mul x y, within)

fits : (z : ℤ) → unsigned_abs z < 2 ^ 112 → FitsSigned w128 z
fits z h = fits_signed_from_abs w128 z (omega (arith, h))

some : (y : ℤ) (b : ℕ) → pos 0 <ℤ y → b ≡ unsigned_abs y → 0 < b
some y b above is = omega (arith, ints, above, is)

pub is_bounded-requires : goal.is_bounded-requires
is_bounded-requires c = some c.args.y c.unsigned_abs-2.result c.requires (simp (to_z-of_z, c.ranges.y) at c.unsigned_abs-2.ensures.value)

large : (x y : ℤ) (a b : ℕ) → a ≡ unsigned_abs x → b ≡ unsigned_abs y → 2 ^ 112 ≤ a * b → 2 ^ 112 ≤ unsigned_abs x * unsigned_abs y
large x y a b x_is y_is h = rw (x_is, y_is) at h

pub returns-then-not-is_bounded-clause-large : goal.returns-then-not-is_bounded-clause-large
returns-then-not-is_bounded-clause-large c =
    large c.args.x c.args.y c.unsigned_abs.result c.unsigned_abs-2.result (simp (to_z-of_z, c.ranges.x) at c.unsigned_abs.ensures.value) (simp (to_z-of_z, c.ranges.y) at c.unsigned_abs-2.ensures.value) (c.if-not-is_bounded.ensures.no refl)

pub overflow_mul-result : goal.overflow_mul-result
overflow_mul-result c =
    let small : unsigned_abs (c.args.x *ℤ c.args.y) < 2 ^ 112 = size c.args.x c.args.y c.unsigned_abs.result c.unsigned_abs-2.result (simp (to_z-of_z, c.ranges.x) at c.unsigned_abs.ensures.value) (simp (to_z-of_z, c.ranges.y) at c.unsigned_abs-2.ensures.value) (c.if-not-is_bounded.ensures.yes refl) in
    simp (to_z-of_z, c.ranges.x, c.ranges.y) (fits (c.args.x *ℤ c.args.y) small)

pub returns-clause-value : goal.returns-clause-value
returns-clause-value c =
    let small : unsigned_abs (c.args.x *ℤ c.args.y) < 2 ^ 112 = size c.args.x c.args.y c.unsigned_abs.result c.unsigned_abs-2.result (simp (to_z-of_z, c.ranges.x) at c.unsigned_abs.ensures.value) (simp (to_z-of_z, c.ranges.y) at c.unsigned_abs-2.ensures.value) (c.if-not-is_bounded.ensures.yes refl) in
    let whole : SFits w128 (c.args.x *ℤ c.args.y) = fits (c.args.x *ℤ c.args.y) small in
    simp (to_z-of_z, c.ranges.x, c.ranges.y, whole)

pub returns-clause-small : goal.returns-clause-small
returns-clause-small c =
    let small : unsigned_abs (c.args.x *ℤ c.args.y) < 2 ^ 112 = size c.args.x c.args.y c.unsigned_abs.result c.unsigned_abs-2.result (simp (to_z-of_z, c.ranges.x) at c.unsigned_abs.ensures.value) (simp (to_z-of_z, c.ranges.y) at c.unsigned_abs-2.ensures.value) (c.if-not-is_bounded.ensures.yes refl) in
    let whole : SFits w128 (c.args.x *ℤ c.args.y) = fits (c.args.x *ℤ c.args.y) small in
    simp (to_z-of_z, c.ranges.x, c.ranges.y, whole) small
