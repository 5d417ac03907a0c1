-- Fractions in lowest terms.
use Rattle.std.specs.Prelude.{◌≡◌, ℕ, ◌<◌, ◌^◌, ℤ, pos}
use Rattle.std.specs.Int.{IsGcd}
use Rattle.std.specs.Int.RustNames.{unsigned_abs}
use Rattle.std.specs.Prelude.{◌*ℤ◌, ◌+ℤ◌}
use Rattle.std.specs.Ordering.{int_cmp}
use Rattle.std.specs.declared.cmp.Ordering.{Ordering}
use Rattle.frac_core.specs.declared.frac.TheConstants.{PART_BOUND}

-- a numerator with the sign, and a denominator
pub record Fraction : Type 0 where
  pub num : ℤ
  pub den : ℕ

-- the denominator is above 0, and the parts have no common divisor but 1
pub record IsLowest (f : Fraction) : Type 0 where
  pub above : 0 < f.den
  pub coprime : IsGcd (unsigned_abs f.num) f.den 1

-- both parts are below the bound in size
pub record Fits (f : Fraction) : Type 0 where
  pub num_fits : unsigned_abs f.num < PART_BOUND
  pub den_fits : f.den < PART_BOUND

-- in lowest terms, and fitting
pub record IsKept (f : Fraction) : Type 0 where
  pub lowest : IsLowest f
  pub fits : Fits f

-- the fraction is p over q
abbrev pub IsRatio : Fraction → ℤ → ℤ → Type 0
IsRatio f p q = f.num *ℤ q ≡ p *ℤ pos f.den

-- a whole number below the bound in size
abbrev pub IsFitting : ℤ → Type 0
IsFitting z = unsigned_abs z < PART_BOUND

-- what the product of two fitting numbers is: 2^84 is the square of PART_BOUND
abbrev pub IsFactor : ℤ → Type 0
IsFactor k = unsigned_abs k < 2 ^ 84

-- p over q in lowest terms does not fit
abbrev pub IsUnfitRatio : ℤ → ℤ → Type 0
IsUnfitRatio p q = (f : Fraction) → IsLowest f → IsRatio f p q → Fits f → ⊥

-- the order of the two values
abbrev pub fraction_order : Fraction → Fraction → Ordering
fraction_order f g = int_cmp (f.num *ℤ pos g.den) (g.num *ℤ pos f.den)

-- a + (n/d)*t is this number over `sum_den a d t`
abbrev pub sum_num : Fraction → ℤ → ℤ → Fraction → ℤ
sum_num a n d t = a.num *ℤ (d *ℤ pos t.den) +ℤ n *ℤ (t.num *ℤ pos a.den)

-- a denominator of a + (n/d)*t, whatever n is
abbrev pub sum_den : Fraction → ℤ → Fraction → ℤ
sum_den a d t = pos a.den *ℤ (d *ℤ pos t.den)
