-- Sizes of sums.
use Rattle.std.proofs.Common.{ℕ, ◌+◌, ◌<◌, ◌≤◌, ◌^◌, ◌*◌, ℤ, pos, ◌*ℤ◌, SFits, arith}
use Rattle.std.specs.Int.{w128}
use Rattle.std.proofs.lemmas.Int.{fits_signed_from_abs, unsigned_abs-mul}
use Rattle.std.specs.Int.RustNames.{unsigned_abs}
use Rattle.frac_core.proofs.Products.{most_product}

pub room-more : (x y b : ℕ) (i : ℕ) → x ≤ i * 2 ^ 89 → y ≤ x + 2 ^ 89 → y ≤ (i + 1) * 2 ^ 89
room-more x y b i h k = omega arith

pub share-size : (p : ℤ) (s : ℕ) → unsigned_abs p < 2 ^ 84 → s < 2 ^ 30 → unsigned_abs (p *ℤ pos s) < 2 ^ 114
share-size p s h k =
    omega (arith, unsigned_abs-mul p (pos s), most_product (unsigned_abs p) s 19342813113834066795298815 1073741823 (omega (arith, h)) (omega (arith, k)))

pub share-fits : (p : ℤ) (s : ℕ) → unsigned_abs p < 2 ^ 84 → s < 2 ^ 30 → SFits w128 (p *ℤ pos s)
share-fits p s h k = fits_signed_from_abs w128 (p *ℤ pos s) (omega (arith, share-size p s h k))

pub sum-room : (x y z : ℤ) (i : ℕ) → unsigned_abs x ≤ i * 2 ^ 114 → unsigned_abs y < 2 ^ 114 → unsigned_abs z ≤ unsigned_abs x + unsigned_abs y → unsigned_abs z ≤ (i + 1) * 2 ^ 114
sum-room x y z i h k l = omega (arith, h, k, l)
