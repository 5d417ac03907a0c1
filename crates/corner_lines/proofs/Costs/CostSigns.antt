-- The sign of a cost at one point and at another.
use Rattle.std.proofs.Common.{◌≡◌, ◌∙◌, ℕ, ◌<◌, ℤ, pos, negsuc, ◌*ℤ◌, ◌<ℤ◌, sym, subst, arith, zero, suc, ◌≤ℤ◌, neg_ℤ}
use borrow.Author.Differences.{ints}
use Rattle.frac_core.proofs.Integers.{mul_positive, positive_from, mul_not_negative, mul-zero_ℤ}
use lib.IntN.{*ℤ_comm}
use Rattle.frac_core.proofs.Numbers.{neg-times}

-- c*d = n*(s*o), where n, s and o are above 0
pub up-cost : (c n o : ℤ) (d s : ℕ) → 0 < s → pos 0 <ℤ o → c *ℤ pos d ≡ n *ℤ (pos s *ℤ o) → pos 0 <ℤ n → pos 0 <ℤ c
up-cost c (negsuc n) o d s above up e h = absurd (omega (arith, ints, h))
up-cost c (pos n) o d s above up e h =
    let all : pos 0 <ℤ (pos n *ℤ (pos s *ℤ o)) = mul_positive n (pos s *ℤ o) (omega (arith, ints, h)) (mul_positive s o above up) in
    let turned : pos d *ℤ c ≡ pos n *ℤ (pos s *ℤ o) = *ℤ_comm (pos d) c ∙ e in
    positive_from d c (subst (λ (z : ℤ). pos 0 <ℤ z) (sym turned) all)

pub low-cost : (c n o : ℤ) (d s : ℕ) → 0 < d → pos 0 <ℤ o → c *ℤ pos d ≡ n *ℤ (pos s *ℤ o) → n ≤ℤ pos 0 → pos 0 <ℤ c → ⊥
low-cost c (pos zero) o d s above up e h k =
    let some : pos 0 <ℤ (pos d *ℤ c) = mul_positive d c above k in
    let turned : pos d *ℤ c ≡ pos 0 *ℤ (pos s *ℤ o) = *ℤ_comm (pos d) c ∙ e in
    let none : pos 0 *ℤ (pos s *ℤ o) ≡ pos 0 = *ℤ_comm (pos 0) (pos s *ℤ o) ∙ mul-zero_ℤ (pos s *ℤ o) in
    omega (arith, ints, some, turned, none)
low-cost c (pos (suc n)) o d s above up e h k = absurd (omega (arith, ints, h))
low-cost c (negsuc n) o d s above up e h k =
    let some : pos 0 <ℤ (pos d *ℤ c) = mul_positive d c above k in
    let turned : pos d *ℤ c ≡ negsuc n *ℤ (pos s *ℤ o) = *ℤ_comm (pos d) c ∙ e in
    let weak : pos 0 ≤ℤ (pos s *ℤ o) = mul_not_negative s o (omega (arith, ints, up)) in
    let not : pos 0 ≤ℤ (pos (suc n) *ℤ (pos s *ℤ o)) = mul_not_negative (suc n) (pos s *ℤ o) weak in
    let opposite : negsuc n *ℤ (pos s *ℤ o) ≡ neg_ℤ (pos (suc n) *ℤ (pos s *ℤ o)) = neg-times (pos (suc n)) (pos s *ℤ o) in
    omega (arith, ints, some, turned, not, opposite)

-- the cost is above 0 at each point that stands there, or at none
pub moved-up : (a b x y : ℤ) → pos 0 <ℤ x → pos 0 <ℤ y → a *ℤ y ≡ b *ℤ x → pos 0 <ℤ b → pos 0 <ℤ a
moved-up a (negsuc b) x y ux uy e h = absurd (omega (arith, ints, h))
moved-up a (pos b) x (negsuc y) ux uy e h = absurd (omega (arith, ints, uy))
moved-up a (pos b) x (pos y) ux uy e h =
    let some : pos 0 <ℤ (pos b *ℤ x) = mul_positive b x (omega (arith, ints, h)) ux in
    positive_from y a (subst (λ (z : ℤ). pos 0 <ℤ z) (sym (*ℤ_comm (pos y) a ∙ e)) some)
