-- Sizes of products and sums.
use Rattle.std.proofs.Common.{ℕ, ◌+◌, ◌*◌, ◌<◌, ◌≤◌, ◌^◌, ℤ, ◌*ℤ◌, SFits, arith}
use Rattle.std.specs.Int.{w64, w128}
use Rattle.std.specs.Int.RustNames.{unsigned_abs}
use Rattle.std.proofs.lemmas.Int.{fits_signed_from_abs, unsigned_abs-mul}
use Rattle.frac_core.proofs.Products.{most_product}

pub term-size : (x y : ℤ) → unsigned_abs x ≤ 2 ^ 30 → unsigned_abs y < 2 ^ 62 → unsigned_abs (x *ℤ y) < 2 ^ 93
term-size x y h k =
    omega (arith, unsigned_abs-mul x y, most_product (unsigned_abs x) (unsigned_abs y) 1073741824 4611686018427387903 (omega (arith, h)) (omega (arith, k)))

pub term-fits : (x y : ℤ) → unsigned_abs x ≤ 2 ^ 30 → unsigned_abs y < 2 ^ 62 → SFits w128 (x *ℤ y)
term-fits x y h k = fits_signed_from_abs w128 (x *ℤ y) (omega (arith, term-size x y h k))

pub small-fits : (x : ℤ) → unsigned_abs x ≤ 2 ^ 30 → SFits w64 x
small-fits x h = fits_signed_from_abs w64 x (omega (arith, h))

pub sum-room : (x y z : ℕ) (i : ℕ) → x ≤ i * 2 ^ 93 → y < 2 ^ 93 → z ≤ x + y → z ≤ (i + 1) * 2 ^ 93
sum-room x y z i h k l = omega (arith, h, k, l)
