-- The sizes of products of fitting numbers, and of sums of two such products.
use Rattle.std.proofs.Common.{ℕ, ◌*◌, ◌<◌, ◌≤◌, ◌^◌, arith, mul-pos}
use Rattle.std.specs.Prelude.{ℤ, pos, negsuc, ◌<ℤ◌, ◌+ℤ◌, ◌*ℤ◌, FitsSigned}
use Rattle.std.specs.Int.{w128}
use Rattle.std.specs.Int.RustNames.{unsigned_abs}
use Rattle.std.proofs.lemmas.Int.{ints, unsigned_abs-mul, fits_signed_from_abs}
use Rattle.std.proofs.Math.Nat.{mul-le-mul}
use Rattle.frac_core.specs.Fraction.{IsFitting}

pub most_product : (a b m n : ℕ) → a ≤ m → b ≤ n → a * b ≤ m * n
most_product a b m n h k = mul-le-mul h k

pub above_zero : (n : ℕ) → 0 < n → pos 0 <ℤ pos n
above_zero n h = omega (arith, ints)

pub pair_size : (y z : ℤ) → IsFitting y → IsFitting z → unsigned_abs (y *ℤ z) < 2 ^ 84
pair_size y z fits_y fits_z =
    omega (arith, unsigned_abs-mul y z, most_product (unsigned_abs y) (unsigned_abs z) 4398046511103 4398046511103 (omega arith) (omega arith))

pub triple_size : (x y z : ℤ) → IsFitting x → IsFitting y → IsFitting z → unsigned_abs (x *ℤ (y *ℤ z)) < 2 ^ 126
triple_size x y z fits_x fits_y fits_z =
    let pair : unsigned_abs (y *ℤ z) ≤ 4398046511103 * 4398046511103 =
    omega (arith, unsigned_abs-mul y z, most_product (unsigned_abs y) (unsigned_abs z) 4398046511103 4398046511103 (omega arith) (omega arith)) in
    omega (arith, unsigned_abs-mul x (y *ℤ z), most_product (unsigned_abs x) (unsigned_abs (y *ℤ z)) 4398046511103 (4398046511103 * 4398046511103) (omega arith) pair)

pub pair_fits : (y z : ℤ) → IsFitting y → IsFitting z → FitsSigned w128 (y *ℤ z)
pair_fits y z fits_y fits_z = fits_signed_from_abs w128 (y *ℤ z) (omega (arith, pair_size y z fits_y fits_z))

pub triple_fits : (x y z : ℤ) → IsFitting x → IsFitting y → IsFitting z → FitsSigned w128 (x *ℤ (y *ℤ z))
triple_fits x y z fits_x fits_y fits_z = fits_signed_from_abs w128 (x *ℤ (y *ℤ z)) (omega (arith, triple_size x y z fits_x fits_y fits_z))

pub sum_size : (x y : ℤ) → unsigned_abs x < 2 ^ 126 → unsigned_abs y < 2 ^ 126 → unsigned_abs (x +ℤ y) < 2 ^ 127
sum_size (pos x) (pos y) h k = omega (arith, ints)
sum_size (pos x) (negsuc y) h k = omega (arith, ints)
sum_size (negsuc x) (pos y) h k = omega (arith, ints)
sum_size (negsuc x) (negsuc y) h k = omega (arith, ints)

pub sum_fits : (x y : ℤ) → unsigned_abs x < 2 ^ 126 → unsigned_abs y < 2 ^ 126 → FitsSigned w128 (x +ℤ y)
sum_fits x y h k = fits_signed_from_abs w128 (x +ℤ y) (omega (arith, sum_size x y h k))

pub product_above : (x y z : ℤ) → pos 0 <ℤ x → pos 0 <ℤ y → pos 0 <ℤ z → pos 0 <ℤ (x *ℤ (y *ℤ z))
product_above (pos x) (pos y) (pos z) h k l = above_zero (x * (y * z)) (mul-pos (omega (arith, ints)) (mul-pos (omega (arith, ints)) (omega (arith, ints))))
product_above (pos x) (pos y) (negsuc z) h k l = absurd (omega (arith, ints))
product_above (pos x) (negsuc y) z h k l = absurd (omega (arith, ints))
product_above (negsuc x) y z h k l = absurd (omega (arith, ints))
