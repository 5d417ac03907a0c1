-- Numbers in lowest terms.
use Rattle.std.specs.Prelude.{◌≡◌, ℕ, ◌*◌, ◌<◌, ◌≤◌, ◌^◌, List, map, ℤ, pos, ◌+ℤ◌, ◌*ℤ◌, ◌<ℤ◌, unsigned_abs}
use Rattle.std.specs.Prelude.{◌≢◌, Bool, true, false, negsuc, All, length, slice_index_or}
use Rattle.std.specs.Int.{◌∣◌}
pub use Rattle.frac_core.specs.Fraction.{IsFactor}
use Rattle.frac_core.specs.Fraction.{IsFitting}
use Rattle.frac_core.specs.declared.frac.TheConstants.{PART_BOUND}

-- the number of the line at a place
abbrev pub number_at : List ℤ → ℕ → ℤ
number_at numbers at = slice_index_or numbers at (pos 0)

-- small enough for the sum of two such products to have 128 bits
abbrev pub IsSmallProduct : ℤ → ℤ → Type 0
IsSmallProduct k by = unsigned_abs (k *ℤ by) < 2 ^ 126

-- the divisor divides all
abbrev pub DividesAll : ℕ → ℤ → List ℤ → Type 0
DividesAll k own by = (k ∣ unsigned_abs own) × All (λ z. k ∣ unsigned_abs z) by

-- the greatest common divisor
pub record IsCommonDivisor (own : ℤ) (by : List ℤ) (divisor : ℤ) : Type 0 where
  pub above : pos 0 <ℤ divisor
  pub divides : DividesAll (unsigned_abs divisor) own by
  pub greatest : (k : ℕ) → DividesAll k own by → k ∣ unsigned_abs divisor

-- `low` and the parts are `own` and the numbers without their common factor
pub record AreLowest (own : ℤ) (by : List ℤ) (low : ℤ) (part : List ℤ) : Type 0 where
  pub factor : ℕ
  pub above : 0 < factor
  pub own_is : pos factor *ℤ low ≡ own
  pub same : map (λ z. pos factor *ℤ z) part ≡ by
  pub lowest : (k : ℕ) → DividesAll k low part → k ≡ 1

-- all of them fit
abbrev pub AreFitting : ℤ → List ℤ → Type 0
AreFitting low part = IsFitting low × All IsFitting part

-- no lowest terms fit
abbrev pub AreUnfit : ℤ → List ℤ → Type 0
AreUnfit own by = (low : ℤ) (part : List ℤ) → AreLowest own by low part → AreFitting low part → ⊥

-- a quotient by the divisor does not fit
abbrev pub HasTooLarge : ℤ → List ℤ → Type 0
HasTooLarge divisor numbers = (at : ℕ) × (at < length numbers)
    × (unsigned_abs divisor * PART_BOUND ≤ unsigned_abs (number_at numbers at))

-- k times one number and m times the other, place by place
pub record IsCombined (k : ℤ) (left : List ℤ) (m : ℤ) (right out : List ℤ) : Type 0 where
  pub count : length out ≡ length left
  pub each : (at : ℕ) → at < length left
      → number_at out at ≡ k *ℤ number_at left at +ℤ m *ℤ number_at right at

-- -1 if it is true, or else 1
abbrev pub flip_sign : Bool → ℤ
flip_sign true = negsuc 0
flip_sign false = pos 1

-- each number times the factor, and `number` at the place
pub record IsReplaced (times : ℤ) (numbers : List ℤ) (at : ℕ) (number : ℤ) (out : List ℤ) : Type 0 where
  pub count : length out ≡ length numbers
  pub here : at < length numbers → number_at out at ≡ number
  pub others : (q : ℕ) → q < length numbers → q ≢ at → number_at out q ≡ times *ℤ number_at numbers q
