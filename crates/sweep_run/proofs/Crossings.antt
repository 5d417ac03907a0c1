-- Where a mark that is negative at the end is 0.
use Rattle.std.proofs.Common.{◌≡◌, ◌∙◌, inl, inr, ℕ, ◌*◌, ◌<◌, ℤ, pos, negsuc, ◌+ℤ◌, ◌*ℤ◌, neg_ℤ, ◌≤ℤ◌, ◌<ℤ◌, ap, subst, arith}
use borrow.Author.Differences.{ints}
use lib.IntN.{*ℤ_comm}
use Rattle.frac_core.proofs.Integers.{diff-add, diff-mul, diff-neg, diff-pos, diff_eq, mul_not_negative, neg-pos, on_1, on_2}
use Rattle.frac_core.proofs.Numbers.{as-natural, low-times, up-or-low, product-up}

ruleset ring = (diff-add, diff-mul, diff-neg, diff-pos, neg-pos)

-- ---- the crossing's quotient

-- -(f*d) is above 0
pub numerator-up : (f d : ℤ) → f <ℤ pos 0 → pos 0 <ℤ d → pos 0 <ℤ neg_ℤ (f *ℤ d)
numerator-up f d low up =
    let n = as-natural d up in
    let product : (pos n.0 *ℤ f) <ℤ pos 0 = low-times n.0 f n.1 low in
    let same : f *ℤ d ≡ pos n.0 *ℤ f = ap (λ (z : ℤ). f *ℤ z) n.2 ∙ *ℤ_comm f (pos n.0) in
    omega (arith, ints, product, same)

-- with it the value is 0: f*(d*D) + n*(B*fd) = 0 where -(f*d)*D = B*(fd*n)
pub zero-there : (f d n b : ℤ) (fd whole : ℕ) → neg_ℤ (f *ℤ d) *ℤ pos whole ≡ b *ℤ (pos fd *ℤ n) → f *ℤ (d *ℤ pos whole) +ℤ n *ℤ (b *ℤ pos fd) ≡ pos 0
zero-there f d n b fd whole h =
    let left : neg_ℤ (f *ℤ d) *ℤ pos whole ≡ neg_ℤ (f *ℤ (d *ℤ pos whole)) = turned whole f d in
    let right : b *ℤ (pos fd *ℤ n) ≡ n *ℤ (b *ℤ pos fd) = moved fd b n in
    omega (arith, ints, h, left, right)
  where
    turned : (whole : ℕ) (f d : ℤ) → neg_ℤ (f *ℤ d) *ℤ pos whole ≡ neg_ℤ (f *ℤ (d *ℤ pos whole))
    turned whole = on_2 (λ f d. neg_ℤ (f *ℤ d) *ℤ pos whole ≡ neg_ℤ (f *ℤ (d *ℤ pos whole))) (λ a a' b b'. simp ring (diff_eq _ _ _ _ (omega arith)))

    moved : (fd : ℕ) (b n : ℤ) → b *ℤ (pos fd *ℤ n) ≡ n *ℤ (b *ℤ pos fd)
    moved fd = on_2 (λ b n. b *ℤ (pos fd *ℤ n) ≡ n *ℤ (b *ℤ pos fd)) (λ a a' b b'. simp ring (diff_eq _ _ _ _ (omega arith)))

-- ---- the rate

pub value-den : (fd whole : ℕ) (dn : ℕ) → pos fd *ℤ (pos dn *ℤ pos whole) ≡ pos (fd * (dn * whole))
value-den fd whole dn = simp ring (diff_eq _ _ _ _ (omega arith))

-- no number that isn't above 0 makes up for a negative value
pub rate-up : (f d n b : ℤ) (fd whole : ℕ) → f <ℤ pos 0 → pos 0 <ℤ d → 0 < whole → pos 0 ≤ℤ b → pos 0 ≤ℤ (f *ℤ (d *ℤ pos whole) +ℤ n *ℤ (b *ℤ pos fd)) → pos 0 <ℤ n
rate-up f d n b fd whole low up some back sum =
    elim (up-or-low n) [
      | inl above ↦ above
      | inr none ↦
          let first : (f *ℤ (d *ℤ pos whole)) <ℤ pos 0 = first-low f (d *ℤ pos whole) low (product-up d (pos whole) up (omega (arith, ints, some))) in
          let second : (n *ℤ (b *ℤ pos fd)) ≤ℤ pos 0 = second-low n (b *ℤ pos fd) none (subst (λ (z : ℤ). pos 0 ≤ℤ z) (*ℤ_comm (pos fd) b) (mul_not_negative fd b back)) in
          absurd (omega (arith, ints, sum, first, second))
    ]
  where
    first-low : (a z : ℤ) → a <ℤ pos 0 → pos 0 <ℤ z → (a *ℤ z) <ℤ pos 0
    first-low a z l u =
        let n = as-natural z u in
        let product : (pos n.0 *ℤ a) <ℤ pos 0 = low-times n.0 a n.1 l in
        let same : a *ℤ z ≡ pos n.0 *ℤ a = ap (λ (y : ℤ). a *ℤ y) n.2 ∙ *ℤ_comm a (pos n.0) in
        omega (arith, ints, product, same)

    second-low : (a z : ℤ) → a ≤ℤ pos 0 → pos 0 ≤ℤ z → (a *ℤ z) ≤ℤ pos 0
    second-low a (pos k) l u =
        let product : pos 0 ≤ℤ (pos k *ℤ neg_ℤ a) = mul_not_negative k (neg_ℤ a) (omega (arith, ints, l)) in
        let same : pos k *ℤ neg_ℤ a ≡ neg_ℤ (a *ℤ pos k) = on_1 (λ a. pos k *ℤ neg_ℤ a ≡ neg_ℤ (a *ℤ pos k)) (λ a a'. simp ring (diff_eq _ _ _ _ (omega arith))) a in
        omega (arith, ints, product, same)
    second-low a (negsuc k) l u = absurd (omega (arith, ints, u))
