-- Quotients of whole numbers, and their common divisors.
use Rattle.std.specs.Prelude.{◌≡◌, ℕ, ◌<◌, ℤ, pos, ◌<ℤ◌, ◌*ℤ◌, unsigned_abs}
use Rattle.std.specs.Int.{IsGcd}

-- x and y are p and q divided by a common divisor
pub record IsDivided (p q x y : ℤ) : Type 0 where
  pub divisor : ℕ
  pub above : 0 < divisor
  pub num : pos divisor *ℤ x ≡ p
  pub den : pos divisor *ℤ y ≡ q
  pub den_above : pos 0 <ℤ y

-- the same, and x and y have no common divisor but 1
pub record IsReduced (p q x y : ℤ) : Type 0 where
  pub divided : IsDivided p q x y
  pub apart : IsGcd (unsigned_abs x) (unsigned_abs y) 1
