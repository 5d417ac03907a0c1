-- A value that moves by a multiple of another value.
use Rattle.std.specs.Prelude.{◌≡◌, ℕ, ◌<◌, ℤ, pos, ◌+ℤ◌, ◌*ℤ◌, ◌<ℤ◌, unsigned_abs}
use Rattle.std.specs.Int.{IsGcd}
use Rattle.frac_core.specs.Fraction.{Fraction}

-- the fraction in lowest terms
pub record IsLowestPart (num den low_num low_den : ℤ) : Type 0 where
  pub factor : ℕ
  pub above : 0 < factor
  pub num_is : pos factor *ℤ low_num ≡ num
  pub den_is : pos factor *ℤ low_den ≡ den
  pub up : pos 0 <ℤ low_den
  pub lowest : IsGcd (unsigned_abs low_num) (unsigned_abs low_den) 1

-- the sum of a fraction and `num / den` is this number over `joint_den base den`
abbrev pub joint_num : Fraction → ℤ → ℤ → ℤ
joint_num base num den = base.num *ℤ den +ℤ num *ℤ pos base.den

-- the denominator of that sum
abbrev pub joint_den : Fraction → ℤ → ℤ
joint_den base den = pos base.den *ℤ den
