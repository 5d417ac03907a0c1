-- Columns below 0, from one list of multipliers to another.
use Rattle.std.proofs.Common.{◌≡◌, ℕ, ◌<◌, ℤ, pos, ◌*ℤ◌, suc, negsuc, ◌-ℤ◌, ◌≤ℤ◌, ◌<ℤ◌, arith}
use Rattle.frac_core.proofs.Integers.{mul-zero_ℤ, mul-sub_left, mul_positive, mul_not_negative}
use borrow.Author.Differences.{ints}

pub low_from : (s t : ℕ) (a b : ℤ) → 0 < t → pos s *ℤ b ≡ pos t *ℤ a → a <ℤ pos 0 → b <ℤ pos 0
low_from s t a (negsuc b) above e h = omega (arith, ints)
low_from s t (pos a) (pos b) above e h = absurd (omega (arith, ints, h))
low_from s t (negsuc a) (pos b) above e h =
    let up : pos 0 <ℤ (pos t *ℤ pos (suc a)) = mul_positive t (pos (suc a)) above (omega (arith, ints)) in
    let turned : pos t *ℤ (pos 0 -ℤ pos (suc a)) ≡ pos t *ℤ pos 0 -ℤ pos t *ℤ pos (suc a) = mul-sub_left (pos t) (pos 0) (pos (suc a)) in
    let none = mul-zero_ℤ (pos t) in
    let not : pos 0 ≤ℤ (pos s *ℤ pos b) = mul_not_negative s (pos b) (omega (arith, ints)) in
    absurd (omega (arith, ints, up, turned, none, not, e))
