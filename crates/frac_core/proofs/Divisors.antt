-- The sizes of a greatest common divisor.
use Rattle.std.proofs.Common.{◌≡◌, ℕ, zero, suc, ◌*◌, ◌<◌, ◌≤◌, arith, ◌/◌, ℤ, pos, negsuc, ◌<ℤ◌, unsigned_abs, ◌^◌, w64}
use Rattle.std.specs.Int.{IsGcd}
use Rattle.std.specs.Prelude.{FitsSigned}
use Rattle.std.proofs.Math.Nat.{mul-div_cancel'}

pub factor_small : (a g n : ℕ) → g * n ≡ a → 0 < a → (0 < g) × (g ≤ a)
factor_small a zero n e h = absurd (omega (arith, e, h))
factor_small a (suc g) zero e h = absurd (omega (arith, e, h))
factor_small a (suc g) (suc n) e h = (omega arith, omega (arith, e))

pub gcd_small : (a b g : ℕ) → IsGcd a b g → 0 < a → (0 < g) × (g ≤ a)
gcd_small a b g d h = factor_small a g (a / g) (mul-div_cancel' g d.0) h

pub size_above : (z : ℤ) → pos 0 <ℤ z → 0 < unsigned_abs z
size_above (pos zero) h = absurd h.lt
size_above (pos (suc n)) h = omega arith
size_above (negsuc n) h = absurd h.lt

pub positive_small : (z : ℤ) → FitsSigned w64 z → pos 0 <ℤ z → unsigned_abs z < 2 ^ 63
positive_small (pos n) fits h = omega (arith, fits)
positive_small (negsuc n) fits h = absurd h.lt
