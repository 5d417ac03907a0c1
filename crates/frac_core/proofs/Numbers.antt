-- Signs, sizes, factors and multiples of whole numbers.
use Rattle.std.proofs.Common.{ap, ap₂, arith, inl, inr, mul-pos, neg_ℤ, negsuc, one-mul, pos, refl, subst, suc, sym, zero, ℕ, ℤ, ◌*ℤ◌, ◌*◌, ◌+ℤ◌, ◌+◌, ◌/◌, ◌<ℤ◌, ◌<◌, ◌∙◌, ◌≡◌, ◌≢◌, ◌≤ℤ◌, ◌≤◌, ◌⊎◌, ◌↔◌, ◌-ℤ◌}
use Rattle.std.proofs.Math.Nat.{div-mul_cancel, dvd-mul_right, dvd_of_mul-dvd-mul_right, eq-zero_of_zero-dvd, mul-div_cancel, one-dvd}
use Rattle.std.proofs.lemmas.Bool.{cases_eq}
use Rattle.std.proofs.lemmas.Int.{unsigned_abs-mul}
use Rattle.std.proofs.lemmas.Nat.Gcd.{dvd-zero, dvd_antisymm}
use Rattle.std.specs.Int.{◌∣◌}
use Rattle.std.specs.Prelude.{unsigned_abs}
use borrow.Author.Differences.{ints}
use lib.IntN.{*ℤ_comm}
use Rattle.frac_core.proofs.Integers.{cancel_mul, mul-opposite, mul-sub_left, mul-zero_ℤ, mul_assoc_ℤ, mul_left_comm_ℤ, mul_not_negative, mul_positive, zero_from_mul}

pub one-times : (z : ℤ) → pos 1 *ℤ z ≡ z
one-times z = omega (arith, ints)

pub times-one : (z : ℤ) → z *ℤ pos 1 ≡ z
times-one z = omega (arith, ints)

pub factor-zero : (a b : ℕ) → 0 < b → a * b ≡ 0 → a ≡ 0
factor-zero zero b h e = refl
factor-zero (suc a) b h e = absurd (omega (arith, h, e))

pub pos-size : (z : ℤ) → pos 0 <ℤ z → pos (unsigned_abs z) ≡ z
pos-size z h = omega (arith, ints, h)

pub zero-or-not : (z : ℤ) → (z ≡ pos 0) ⊎ (z ≢ pos 0)
zero-or-not (pos zero) = inl refl
zero-or-not (pos (suc n)) = inr (λ e. omega (arith, ints, e))
zero-or-not (negsuc n) = inr (λ e. omega (arith, ints, e))

pub above-right : (j n m : ℕ) → j * n ≡ m → 0 < m → 0 < n
above-right j zero m e up = absurd (omega (arith, e, up))
above-right j (suc n) m e up = omega arith

pub product-above : (a b : ℕ) → 0 < a → 0 < b → 0 < a * b
product-above zero b h k = absurd (omega (arith, h))
product-above (suc a) b h k = omega (arith, k)

pub divides-zero : (k : ℕ) (z : ℤ) → z ≡ pos 0 → k ∣ unsigned_abs z
divides-zero k z e = subst (λ (t : ℤ). k ∣ unsigned_abs t) (sym e) (dvd-zero k)

pub times-zero : (k z : ℤ) → z ≡ pos 0 → k *ℤ z ≡ pos 0
times-zero k z e = ap (λ (t : ℤ). k *ℤ t) e ∙ mul-zero_ℤ k

pub less-or-here : (j i : ℕ) → j < i + 1 → (j < i) ⊎ (j ≡ i)
less-or-here j i lt = elim (cases_eq j i) [ inl e ↦ inr e | inr ne ↦ inl (omega (arith, lt, ne)) ]

pub size-zero : (z : ℤ) → unsigned_abs z ≡ 0 → z ≡ pos 0
size-zero z e = omega (arith, ints, e)

pub swap-last : (a b c : ℤ) → (a *ℤ b) *ℤ c ≡ (a *ℤ c) *ℤ b
swap-last a b c = mul_assoc_ℤ a b c ∙ ap (λ (z : ℤ). a *ℤ z) (*ℤ_comm b c) ∙ sym (mul_assoc_ℤ a c b)

pub product-up : (a b : ℤ) → pos 0 <ℤ a → pos 0 <ℤ b → pos 0 <ℤ (a *ℤ b)
product-up (pos a) b h k = mul_positive a b (omega (arith, ints, h)) k
product-up (negsuc a) b h k = absurd (omega (arith, ints, h))

pub plus-zero : (k z : ℤ) → z ≡ pos 0 → k +ℤ z ≡ k
plus-zero k z e = omega (arith, ints, e)

pub low-not-zero : (z : ℤ) → z <ℤ pos 0 → z ≢ pos 0
low-not-zero z h e = omega (arith, ints, h, e)

pub no-cost : (q w v : ℕ) (a b : ℤ) → a ≡ pos 0 → b ≡ pos 0 → pos q *ℤ (pos w *ℤ a +ℤ pos v *ℤ b) ≡ pos 0
no-cost q w v a b e f = ap (λ (z : ℤ). pos q *ℤ z) (ap₂ ◌+ℤ◌ (ap (λ (z : ℤ). pos w *ℤ z) e ∙ mul-zero_ℤ (pos w)) (ap (λ (z : ℤ). pos v *ℤ z) f ∙ mul-zero_ℤ (pos v))) ∙ mul-zero_ℤ (pos q)

pub zero-up : (z : ℤ) → z ≡ pos 0 → pos 0 ≤ℤ z
zero-up z e = omega (arith, ints, e)

pub only-one : (k g : ℕ) → 0 < g → (k * g) ∣ g → k ≡ 1
only-one k g above h = dvd_antisymm (dvd_of_mul-dvd-mul_right k above (subst (λ (z : ℕ). (k * g) ∣ z) (sym (one-mul g)) h)) (one-dvd k)

pub plus-none : (a k z : ℤ) → z ≡ pos 0 → a +ℤ k *ℤ z ≡ a
plus-none a k z e = ap (λ (t : ℤ). a +ℤ k *ℤ t) e ∙ (let n = mul-zero_ℤ k in omega (arith, ints, n))

pub pos-no-product : (s w : ℕ) → w ≡ 0 → pos (s * w) ≡ pos 0
pos-no-product s w e = ap pos (omega (arith, ap (λ (n : ℕ). s * n) e))

pub no-product : (n w : ℕ) → w ≡ 0 → n * w ≡ 0
no-product n w e = ap (λ (v : ℕ). n * v) e ∙ omega arith

pub as-one-times : (z : ℤ) → z ≡ pos 1 *ℤ z
as-one-times z = omega (arith, ints)

pub up-not-zero : (z : ℤ) → pos 0 <ℤ z → z ≢ pos 0
up-not-zero z up e = omega (arith, ints, up, e)

pub zero-sum : (a m x y : ℤ) → x ≡ pos 0 → y ≡ pos 0 → a *ℤ x +ℤ m *ℤ y ≡ pos 0
zero-sum a m x y e f = ap₂ (λ (u v : ℤ). a *ℤ u +ℤ m *ℤ v) e f ∙ ap₂ ◌+ℤ◌ (mul-zero_ℤ a) (mul-zero_ℤ m)

pub zero-minus : (z : ℤ) → pos 0 -ℤ z ≡ neg_ℤ z
zero-minus z = omega (arith, ints)

pub size-of-zero : (z : ℤ) → z ≡ pos 0 → unsigned_abs z ≡ 0
size-of-zero z e = ap unsigned_abs e

pub zero-divides : (z : ℤ) → 0 ∣ unsigned_abs z → z ≡ pos 0
zero-divides (pos n) h = (let e = eq-zero_of_zero-dvd h in ap pos e)
zero-divides (negsuc n) h = absurd (let e = eq-zero_of_zero-dvd h in omega (arith, e))

pub divisor-above : (x d : ℕ) → 0 < d → x ∣ d → 0 < x
divisor-above zero d some h = absurd (omega (arith, some, div-mul_cancel zero h))
divisor-above (suc x) d some h = omega arith

pub one-times-plus : (n : ℤ) → pos 1 *ℤ n +ℤ pos 0 ≡ n
one-times-plus n = omega (arith, ints)

pub size-sum : (x y : ℤ) → unsigned_abs (x +ℤ y) ≤ unsigned_abs x + unsigned_abs y
size-sum x y = omega (arith, ints)

pub signed-not-zero : (z : ℤ) → (pos 0 <ℤ z) ⊎ (pos 0 <ℤ neg_ℤ z) → z ≢ pos 0
signed-not-zero z (inl h) e = absurd (omega (arith, ints, h, e))
signed-not-zero z (inr h) e = absurd (omega (arith, ints, h, e))

pub share-above : (t g : ℕ) → 0 < t → t / g * g ≡ t → 0 < t / g
share-above t g above e = elim (cases_eq (t / g) 0) [
  | inl z ↦ absurd (omega (arith, above, sym e ∙ ap (λ (q : ℕ). q * g) z))
  | inr ne ↦ omega (arith, ne)
]

pub as-natural : (z : ℤ) → pos 0 <ℤ z → (g : ℕ) × (0 < g) × (z ≡ pos g)
as-natural (pos n) h = (n, omega (arith, ints, h), refl)
as-natural (negsuc n) h = absurd h.lt

pub neg-times : (q b : ℤ) → neg_ℤ q *ℤ b ≡ neg_ℤ (q *ℤ b)
neg-times q b = omega (arith, ints, mul-opposite q b)

pub low-or-up : (z : ℤ) → (z <ℤ pos 0) ⊎ (pos 0 ≤ℤ z)
low-or-up (pos n) = inr (omega (arith, ints))
low-or-up (negsuc n) = inl (omega (arith, ints))

pub up-times : (a n : ℤ) → pos 0 ≤ℤ a → pos 0 <ℤ n → pos 0 ≤ℤ (a *ℤ n)
up-times a (pos k) h g = subst (λ (z : ℤ). pos 0 ≤ℤ z) (*ℤ_comm (pos k) a) (mul_not_negative k a h)
up-times a (negsuc k) h g = absurd g.lt

pub weakly-up : (z : ℤ) → pos 0 <ℤ z → pos 0 ≤ℤ z
weakly-up z h = omega (arith, ints, h)

pub minus-self-up : (a : ℤ) → pos 0 ≤ℤ (a -ℤ a)
minus-self-up a = omega (arith, ints)

-- d*(s*(D*q) - D*f) = s*(n*(D*o)): without D
pub cancel-scale : (D d s : ℕ) (q f n o : ℤ) → 0 < D → pos d *ℤ (pos s *ℤ (pos D *ℤ q) -ℤ pos D *ℤ f) ≡ pos s *ℤ (n *ℤ (pos D *ℤ o)) → pos d *ℤ (pos s *ℤ q -ℤ f) ≡ pos s *ℤ (n *ℤ o)
cancel-scale D d s q f n o above h =
    let inner : pos s *ℤ (pos D *ℤ q) -ℤ pos D *ℤ f ≡ pos D *ℤ (pos s *ℤ q -ℤ f) = ap (λ (z : ℤ). z -ℤ pos D *ℤ f) (mul_left_comm_ℤ (pos s) (pos D) q) ∙ sym (mul-sub_left (pos D) (pos s *ℤ q) f) in
    cancel_mul D (pos d *ℤ (pos s *ℤ q -ℤ f)) (pos s *ℤ (n *ℤ o)) above
    (mul_left_comm_ℤ (pos D) (pos d) (pos s *ℤ q -ℤ f) ∙ ap (λ (z : ℤ). pos d *ℤ z) (sym inner) ∙ h
    ∙ ap (λ (z : ℤ). pos s *ℤ z) (mul_left_comm_ℤ n (pos D) o) ∙ mul_left_comm_ℤ (pos s) (pos D) (n *ℤ o))

pub zero-carried : (s t : ℕ) (a b : ℤ) → 0 < s → pos s *ℤ b ≡ pos t *ℤ a → a ≡ pos 0 → b ≡ pos 0
zero-carried s t a b above e h = zero_from_mul s b above (e ∙ ap (λ (z : ℤ). pos t *ℤ z) h ∙ mul-zero_ℤ (pos t))

pub divides-multiple : (k : ℕ) (z y : ℤ) → z ≡ pos k *ℤ y → k ∣ unsigned_abs z
divides-multiple k z y e = subst (λ (n : ℕ). k ∣ n) (sym (ap unsigned_abs e ∙ unsigned_abs-mul (pos k) y)) (dvd-mul_right k (unsigned_abs y))

pub quotient-times : (whole part k d : ℕ) → 0 < d → whole / d * d ≡ whole → part ≡ k * whole → part / d ≡ k * (whole / d)
quotient-times whole part k d above e f =
    let g : k * (whole / d * d) ≡ k * whole = ap (λ (n : ℕ). k * n) e in
    let h : part ≡ (k * (whole / d)) * d = omega (arith, f, g) in
    ap (λ (n : ℕ). n / d) h ∙ mul-div_cancel (k * (whole / d)) above

pub sub-mul_right : (a b n : ℤ) → (a -ℤ b) *ℤ n ≡ a *ℤ n -ℤ b *ℤ n
sub-mul_right a b n = *ℤ_comm (a -ℤ b) n ∙ mul-sub_left n a b ∙ ap₂ ◌-ℤ◌ (*ℤ_comm n a) (*ℤ_comm n b)

pub with-factor : (k s : ℕ) (c n o : ℤ) (d : ℕ) → c *ℤ pos d ≡ n *ℤ (pos s *ℤ o) → (pos k *ℤ c) *ℤ pos d ≡ n *ℤ (pos (k * s) *ℤ o)
with-factor k s c n o d h =
    mul_assoc_ℤ (pos k) c (pos d) ∙ ap (λ (z : ℤ). pos k *ℤ z) h ∙ mul_left_comm_ℤ (pos k) n (pos s *ℤ o) ∙ ap (λ (z : ℤ). n *ℤ z) (sym (mul_assoc_ℤ (pos k) (pos s) o))

pub part-less : (t u b : ℕ) → 0 < u → t * u < b → t < b
part-less t zero b h k = absurd (omega (arith, h))
part-less t (suc u) b h k = omega (arith, k)

pub add-comm : (x y : ℤ) → x +ℤ y ≡ y +ℤ x
add-comm x y = omega (arith, ints)

pub divides-unless-zero : (k : ℕ) (z : ℤ) → (z ≢ pos 0 → k ∣ unsigned_abs z) → k ∣ unsigned_abs z
divides-unless-zero k (pos zero) h = dvd-zero k
divides-unless-zero k (pos (suc n)) h = h (λ e. omega (arith, ints, e))
divides-unless-zero k (negsuc n) h = h (λ e. omega (arith, ints, e))

pub zero-parts : (own : ℕ) (t f b : ℤ) → t ≡ pos 0 → b ≡ pos 0 → pos own *ℤ t +ℤ f *ℤ b ≡ pos 0
zero-parts own t f b e g = ap₂ (λ (x y : ℤ). pos own *ℤ x +ℤ f *ℤ y) e g ∙ ap₂ (λ (x y : ℤ). x +ℤ y) (mul-zero_ℤ (pos own)) (mul-zero_ℤ f)

pub rest-less : (o u m : ℕ) → 0 < o → o * u < m → u < m
rest-less zero u m h k = absurd (omega (arith, h))
rest-less (suc o) u m h k = omega (arith, k)

pub none-below : (k : ℕ) → k < 0 → ⊥
none-below k h = omega (arith, h)

pub up-not-low : (z : ℤ) → pos 0 ≤ℤ z → z <ℤ pos 0 → ⊥
up-not-low z up low = omega (arith, ints, up, low)

-- with the pivot the entering line's number cancels
pub mul-cancelled : (k b : ℤ) → k *ℤ b +ℤ b *ℤ neg_ℤ k ≡ pos 0
mul-cancelled k b = ap (λ (z : ℤ). k *ℤ b +ℤ z) (*ℤ_comm b (neg_ℤ k)) ∙ mul-opposite k b

pub up-or-low : (z : ℤ) → (pos 0 <ℤ z) ⊎ (z ≤ℤ pos 0)
up-or-low (pos zero) = inr (omega (arith, ints))
up-or-low (pos (suc n)) = inl (omega (arith, ints))
up-or-low (negsuc n) = inr (omega (arith, ints))

pub pos-product-up : (a b : ℕ) → 0 < a → 0 < b → pos 0 <ℤ pos (a * b)
pos-product-up a b h k = let m : 0 < a * b = mul-pos h k in omega (arith, ints, m)

pub mul-neg : (x y : ℤ) → x *ℤ neg_ℤ y ≡ neg_ℤ (x *ℤ y)
mul-neg x y = *ℤ_comm x (neg_ℤ y) ∙ neg-times y x ∙ ap neg_ℤ (*ℤ_comm y x)

pub pos-mul-neg : (n : ℕ) (z : ℤ) → pos n *ℤ neg_ℤ z ≡ neg_ℤ (pos n *ℤ z)
pos-mul-neg n z = mul-neg (pos n) z

pub turned-cancels : (a b : ℤ) → a *ℤ b +ℤ neg_ℤ b *ℤ a ≡ pos 0
turned-cancels a b = omega (arith, ints, neg-times b a, *ℤ_comm b a)

pub low-times : (k : ℕ) (z : ℤ) → 0 < k → z <ℤ pos 0 → (pos k *ℤ z) <ℤ pos 0
low-times k z above low =
    let up : pos 0 <ℤ (pos k *ℤ neg_ℤ z) = mul_positive k (neg_ℤ z) above (omega (arith, ints, low)) in
    let e : pos k *ℤ neg_ℤ z ≡ neg_ℤ (pos k *ℤ z) = mul-neg (pos k) z in
    omega (arith, ints, up, e)

pub up-from : (d : ℕ) (z : ℤ) → 0 < d → pos 0 ≤ℤ (pos d *ℤ z) → pos 0 ≤ℤ z
up-from d (pos n) above h = omega (arith, ints)
up-from d (negsuc n) above h =
    let low : (pos d *ℤ negsuc n) <ℤ pos 0 = low-times d (negsuc n) above (omega (arith, ints)) in
    absurd (omega (arith, ints, h, low))

pub up-carried : (s t : ℕ) (a b : ℤ) → 0 < s → pos s *ℤ b ≡ pos t *ℤ a → pos 0 ≤ℤ a → pos 0 ≤ℤ b
up-carried s t a b above e h = up-from s b above (subst (λ (z : ℤ). pos 0 ≤ℤ z) (sym e) (mul_not_negative t a h))

pub signs-go : (d o : ℕ) (a b : ℤ) → 0 < d → 0 < o → pos d *ℤ a ≡ pos o *ℤ b → pos 0 ≤ℤ a → pos 0 ≤ℤ b
signs-go d o a b d_up o_up e up = up-carried o d a b o_up (sym e) up

pub signs-same : (d : ℕ) (a b o : ℤ) → 0 < d → pos 0 <ℤ o → pos d *ℤ a ≡ b *ℤ o → (pos 0 ≤ℤ a) ↔ (pos 0 ≤ℤ b)
signs-same d a b (pos o) d_up o_up e =
    let some : 0 < o = omega (arith, ints, o_up) in
    let turned : pos d *ℤ a ≡ pos o *ℤ b = e ∙ *ℤ_comm b (pos o) in (
      signs-go d o a b d_up some turned,
      signs-go o d b a some d_up (sym turned),
    )
signs-same d a b (negsuc o) d_up o_up e = absurd o_up.lt

pub low-back : (s : ℕ) (a z r : ℤ) → 0 < s → pos 0 <ℤ r → pos s *ℤ a ≡ z *ℤ r → a <ℤ pos 0 → z <ℤ pos 0
low-back s a (negsuc z) r above up e low = omega (arith, ints)
low-back s a (pos z) r above up e low =
    absurd (up-not-low a ((signs-same s a (pos z) r above up e).1 (omega (arith, ints))) low)
