-- The sizes of a sum's numbers.
use Rattle.std.proofs.Common.{ℕ, ◌-◌, ◌*◌, ◌<◌, ◌≤◌, ◌≡◌, ◌^◌, arith, List, length, get_or, inl, inr}
use Rattle.std.specs.Prelude.{ℤ, pos, negsuc, ◌+ℤ◌, FitsSigned}
use Rattle.std.specs.Int.{w64, w128}
use Rattle.std.specs.Int.RustNames.{unsigned_abs}
use Rattle.std.proofs.lemmas.Int.{ints, unsigned_abs-mul, fits_signed_from_abs}
use Rattle.frac_core.specs.Fraction.{IsFitting}
use Rattle.row_core.specs.Combinations.{IsFactor}
use Rattle.row_core.specs.Rows.{Term}
use Rattle.row_core.specs.Walks.{IsSmallProduct, IsFactorOf}
use Rattle.row_core.proofs.Walks.{nothing}
use Rattle.frac_core.proofs.Products.{most_product}

most : (k y : ℤ) → IsFactor k → IsFitting y → unsigned_abs k * unsigned_abs y ≤ 19342813113834066795298815 * 4398046511103
most k y fits_k fits_y = most_product (unsigned_abs k) (unsigned_abs y) 19342813113834066795298815 4398046511103 (omega arith) (omega arith)

pub factor_product : (k y : ℤ) → IsFactor k → IsFitting y → IsSmallProduct k y
factor_product k y fits_k fits_y = omega (arith, unsigned_abs-mul k y, most k y fits_k fits_y)

pub rows_small : (x y : ℤ) → unsigned_abs x < 2 ^ 126 - 2 ^ 84 → unsigned_abs y < 2 ^ 126 - 2 ^ 84 → unsigned_abs (x +ℤ y) < 2 ^ 127 - 2 ^ 85
rows_small (pos x) (pos y) h k = omega (arith, ints)
rows_small (pos x) (negsuc y) h k = omega (arith, ints)
rows_small (negsuc x) (pos y) h k = omega (arith, ints)
rows_small (negsuc x) (negsuc y) h k = omega (arith, ints)

pub rows_fit : (x y : ℤ) → unsigned_abs x < 2 ^ 126 - 2 ^ 84 → unsigned_abs y < 2 ^ 126 - 2 ^ 84 → FitsSigned w128 (x +ℤ y)
rows_fit x y h k = fits_signed_from_abs w128 (x +ℤ y) (omega (arith, rows_small x y h k))

pub extra_small : (x y : ℤ) → unsigned_abs x < 2 ^ 127 - 2 ^ 85 → unsigned_abs y < 2 ^ 84 → unsigned_abs (x +ℤ y) < 2 ^ 127
extra_small (pos x) (pos y) h k = omega (arith, ints)
extra_small (pos x) (negsuc y) h k = omega (arith, ints)
extra_small (negsuc x) (pos y) h k = omega (arith, ints)
extra_small (negsuc x) (negsuc y) h k = omega (arith, ints)

pub extra_fits : (x y : ℤ) → unsigned_abs x < 2 ^ 127 - 2 ^ 85 → unsigned_abs y < 2 ^ 84 → FitsSigned w128 (x +ℤ y)
extra_fits x y h k = fits_signed_from_abs w128 (x +ℤ y) (omega (arith, extra_small x y h k))

-- a number of 64 bits times 1, -1 or 0
pub unit_product : (k y : ℤ) → unsigned_abs k ≤ 1 → unsigned_abs y < 2 ^ 64 → IsSmallProduct k y
unit_product k y unit fits = omega (arith, unsigned_abs-mul k y, most_product (unsigned_abs k) (unsigned_abs y) 1 18446744073709551616 unit (omega arith))

pub small_product : (k y : ℤ) (row : List Term) (i : ℕ) → IsFactorOf k row → i < length row → y ≡ (get_or row i nothing).by → unsigned_abs y < 2 ^ 64 → IsSmallProduct k y
small_product k y row i is within here fits =
    elim is.room [
      | inl all ↦ rw here (factor_product k (get_or row i nothing).by is.factor (all i nothing within))
      | inr unit ↦ unit_product k y unit fits
    ]

narrow_small : (x y : ℤ) → unsigned_abs x < 2 ^ 61 → unsigned_abs y < 2 ^ 61 → unsigned_abs (x +ℤ y) < 2 ^ 62
narrow_small (pos x) (pos y) h k = omega (arith, ints)
narrow_small (pos x) (negsuc y) h k = omega (arith, ints)
narrow_small (negsuc x) (pos y) h k = omega (arith, ints)
narrow_small (negsuc x) (negsuc y) h k = omega (arith, ints)

pub narrow_fit : (x y : ℤ) → unsigned_abs x < 2 ^ 61 → unsigned_abs y < 2 ^ 61 → FitsSigned w64 (x +ℤ y)
narrow_fit x y h k = fits_signed_from_abs w64 (x +ℤ y) (omega (arith, narrow_small x y h k))

pub narrow_extra : (z : ℤ) → unsigned_abs z < 2 ^ 61 → FitsSigned w64 z
narrow_extra z small = fits_signed_from_abs w64 z (omega (arith, small))

narrow_more : (x y : ℤ) → unsigned_abs x < 2 ^ 62 → unsigned_abs y < 2 ^ 61 → unsigned_abs (x +ℤ y) < 2 ^ 63
narrow_more (pos x) (pos y) h k = omega (arith, ints)
narrow_more (pos x) (negsuc y) h k = omega (arith, ints)
narrow_more (negsuc x) (pos y) h k = omega (arith, ints)
narrow_more (negsuc x) (negsuc y) h k = omega (arith, ints)

pub narrow_extra_fit : (x y : ℤ) → unsigned_abs x < 2 ^ 62 → unsigned_abs y < 2 ^ 61 → FitsSigned w64 (x +ℤ y)
narrow_extra_fit x y h k = fits_signed_from_abs w64 (x +ℤ y) (omega (arith, narrow_more x y h k))
