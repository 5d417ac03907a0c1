-- What a deviation counts in a level's units, and how large the products are.
use Rattle.std.proofs.Common.{◌≡◌, ◌∙◌, ℕ, ◌-◌, ◌*◌, ◌/◌, ◌<◌, ◌≤◌, ◌^◌, arith, refl, sym, ap, subst, ℤ, pos, negsuc, ◌*ℤ◌, ◌<ℤ◌, ◌≤ℤ◌, unsigned_abs, SFits}
use Rattle.std.specs.Int.{w128}
use lib.Signed.{quot_z}
use borrow.Author.Differences.{ints}
use Rattle.std.proofs.lemmas.Int.{unsigned_abs-mul}
use Rattle.std.proofs.Math.Nat.{div-le_self, mul-le-mul_left}
use Rattle.frac_core.proofs.Numbers.{rest-less as factor-bound}
use Rattle.frac_core.proofs.Products.{most_product as at-most}
use Rattle.frac_core.proofs.Divisors.{size_above}

pub share_is : (unit cost scale : ℤ) → pos 0 <ℤ unit → pos 0 ≤ℤ cost → pos 0 <ℤ scale → quot_z (unit *ℤ cost) scale ≡ pos (unsigned_abs unit * unsigned_abs cost / unsigned_abs scale)
share_is (pos u) (pos c) (pos s) h k l = refl
share_is (pos u) (pos c) (negsuc s) h k l = absurd l.lt
share_is (pos u) (negsuc c) s h k l = absurd k.le
share_is (negsuc u) c s h k l = absurd h.lt

times-small : (u c : ℕ) → u < 2 ^ 72 → c ≤ 1000 → u * c < 2 ^ 83
times-small u c h k = let m = at-most u c (2 ^ 72) 1000 (omega (arith, h)) k in omega (arith, m)

pub cost-size : (c : ℤ) → pos 0 ≤ℤ c → c ≤ℤ pos 1000 → unsigned_abs c ≤ 1000
cost-size (pos c) k l = omega (arith, ints, l)
cost-size (negsuc c) k l = absurd k.le

pub share_small : (unit cost : ℤ) → unsigned_abs unit < 2 ^ 72 → pos 0 ≤ℤ cost → cost ≤ℤ pos 1000 → unsigned_abs (unit *ℤ cost) < 2 ^ 83
share_small unit cost less k l =
    let n : ℕ = unsigned_abs unit * unsigned_abs cost in
    subst (λ (n : ℕ). n < 2 ^ 83) (sym (unsigned_abs-mul unit cost)) (times-small (unsigned_abs unit) (unsigned_abs cost) less (cost-size cost k l))

pub small_sfits : (z : ℤ) → unsigned_abs z < 2 ^ 126 → SFits w128 z
small_sfits z h = omega (arith, ints, h)

pub widened : (n : ℕ) → n < 2 ^ 83 → n < 2 ^ 126
widened n h = omega (arith, h)

below : (a b m : ℕ) → a ≤ b → b < m → a < m
below a b m h k = omega (arith, h, k)

pub quotient_sfits : (unit cost scale : ℤ) → pos 0 <ℤ unit → unsigned_abs unit < 2 ^ 72 → pos 0 ≤ℤ cost → cost ≤ℤ pos 1000 → pos 0 <ℤ scale → SFits w128 (quot_z (unit *ℤ cost) scale)
quotient_sfits unit cost scale h less k l s =
    subst (λ (z : ℤ). SFits w128 z) (sym (share_is unit cost scale h k s))
    (small_sfits (pos (unsigned_abs unit * unsigned_abs cost / unsigned_abs scale))
    (widened (unsigned_abs unit * unsigned_abs cost / unsigned_abs scale) (below (unsigned_abs unit * unsigned_abs cost / unsigned_abs scale) (unsigned_abs unit * unsigned_abs cost) (2 ^ 83) (div-le_self (unsigned_abs unit * unsigned_abs cost) (unsigned_abs scale))
    (times-small (unsigned_abs unit) (unsigned_abs cost) less (cost-size cost k l)))))

-- ---- what is counted

regrouped : (o u c : ℕ) → o * (u * c) ≡ o * u * c
regrouped o u c = omega arith

counted-size : (o u c s : ℕ) → o * u < 2 ^ 72 → c ≤ 1000 → o * (u * c / s) < 2 ^ 83
counted-size o u c s h k =
    below (o * (u * c / s)) (o * u * c) (2 ^ 83) (subst (λ (n : ℕ). o * (u * c / s) ≤ n) (regrouped o u c) (mul-le-mul_left o (div-le_self (u * c) s))) (times-small (o * u) c h k)

pub counted_small : (own unit cost scale share : ℤ) → unsigned_abs (own *ℤ unit) < 2 ^ 72 → pos 0 ≤ℤ cost → cost ≤ℤ pos 1000 → share ≡ pos (unsigned_abs unit * unsigned_abs cost / unsigned_abs scale) → unsigned_abs (own *ℤ share) < 2 ^ 83
counted_small own unit cost scale share h k l e =
    subst (λ (n : ℕ). n < 2 ^ 83) (sym (unsigned_abs-mul own share ∙ ap (λ (z : ℤ). unsigned_abs own * unsigned_abs z) e))
    (counted-size (unsigned_abs own) (unsigned_abs unit) (unsigned_abs cost) (unsigned_abs scale) (subst (λ (n : ℕ). n < 2 ^ 72) (unsigned_abs-mul own unit) h) (cost-size cost k l))

pub counted_is : (own share : ℤ) (n : ℕ) → pos 0 <ℤ own → share ≡ pos n → own *ℤ share ≡ pos (unsigned_abs own * n)
counted_is (pos o) share n h e = ap (λ (z : ℤ). pos o *ℤ z) e
counted_is (negsuc o) share n h e = absurd h.lt

pub as_factor : (n : ℕ) → n < 2 ^ 83 → n < 2 ^ 84
as_factor n h = omega (arith, h)

pub unit_bound : (own unit : ℤ) (m : ℕ) → pos 0 <ℤ own → unsigned_abs (own *ℤ unit) < m → unsigned_abs unit < m
unit_bound own unit m h k = factor-bound (unsigned_abs own) (unsigned_abs unit) m (size_above own h) (subst (λ (n : ℕ). n < m) (unsigned_abs-mul own unit) k)

-- ---- the products of a join

rest-small : (t u : ℕ) → t ≤ 2 ^ 30 → u < 2 ^ 42 → t * u < 2 ^ 72
rest-small t u h k = let m = at-most t u (2 ^ 30) (2 ^ 42 - 1) h (omega (arith, k)) in omega (arith, m)

pub risen_small : (times unit : ℤ) → unsigned_abs times ≤ 2 ^ 30 → unsigned_abs unit < 2 ^ 42 → unsigned_abs (times *ℤ unit) < 2 ^ 72
risen_small times unit h k = subst (λ (n : ℕ). n < 2 ^ 72) (sym (unsigned_abs-mul times unit)) (rest-small (unsigned_abs times) (unsigned_abs unit) h k)

pub risen_scale : (own times unit : ℤ) → unsigned_abs times ≤ 2 ^ 30 → unsigned_abs (own *ℤ unit) < 2 ^ 42 → unsigned_abs (own *ℤ (times *ℤ unit)) < 2 ^ 72
risen_scale own times unit h k =
    subst (λ (n : ℕ). n < 2 ^ 72) (sym (unsigned_abs-mul own (times *ℤ unit) ∙ ap (λ (n : ℕ). unsigned_abs own * n) (unsigned_abs-mul times unit)))
    (crossed (unsigned_abs own) (unsigned_abs times) (unsigned_abs unit) h (subst (λ (n : ℕ). n < 2 ^ 42) (unsigned_abs-mul own unit) k))
  where
    swapped : (o t u : ℕ) → t * (o * u) ≡ o * (t * u)
    swapped o t u = omega arith

    crossed : (o t u : ℕ) → t ≤ 2 ^ 30 → o * u < 2 ^ 42 → o * (t * u) < 2 ^ 72
    crossed o t u h k = subst (λ (n : ℕ). n < 2 ^ 72) (swapped o t u) (rest-small t (o * u) h k)

pub positive_product : (a b : ℤ) → pos 0 <ℤ a → pos 0 <ℤ b → a *ℤ b ≡ pos (unsigned_abs a * unsigned_abs b)
positive_product (pos a) (pos b) h k = refl
positive_product (pos a) (negsuc b) h k = absurd k.lt
positive_product (negsuc a) b h k = absurd h.lt
