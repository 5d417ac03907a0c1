-- Where an assignment stands to a value.
use Rattle.std.proofs.Common.{◌≡◌, ◌∙◌, ℕ, zero, suc, ◌*◌, ◌<◌, ℤ, pos, negsuc, ◌+ℤ◌, ◌-ℤ◌, ◌*ℤ◌, ◌<ℤ◌, refl, sym, ap, subst, arith}
use borrow.Author.Differences.{ints}
use Rattle.frac_core.proofs.Integers.{add-mul_right, diff-add, diff-mul, diff-neg, diff-pos, diff_eq, mul-sub_left, mul-zero_ℤ, mul_positive, neg-pos, on_2, positive_from}
use Rattle.frac_core.specs.Fraction.{Fraction}
use Rattle.problem_core.specs.Layout.{Assignment}
use Rattle.diagnosis.specs.Probes.{place}
use Rattle.diagnosis.specs.Ambiguity.{IsAbove, IsBelow, IsDownToLast, IsUpToNext, Reaches}
use Rattle.frac_core.proofs.Numbers.{sub-mul_right as sub-right, product-above as product-up}

ruleset ring = (diff-add, diff-mul, diff-neg, diff-pos, neg-pos)

-- ---- orders of multiples

pub times_less : (k : ℕ) (a b : ℤ) → 0 < k → a <ℤ b → (pos k *ℤ a) <ℤ (pos k *ℤ b)
times_less k a b above h =
    let up : pos 0 <ℤ (pos k *ℤ (b -ℤ a)) = mul_positive k (b -ℤ a) above (omega (arith, ints, h)) in
    let e = mul-sub_left (pos k) b a in
    omega (arith, ints, up, e)

pub cancel_less : (k : ℕ) (a b : ℤ) → (pos k *ℤ a) <ℤ (pos k *ℤ b) → a <ℤ b
cancel_less k a b h =
    let e = mul-sub_left (pos k) b a in
    let up : pos 0 <ℤ (pos k *ℤ (b -ℤ a)) = omega (arith, ints, h, e) in
    let low = positive_from k (b -ℤ a) up in
    omega (arith, ints, low)

-- ---- two assignments

-- X d = n D, and Y d against n E: how the places of Y and X compare
spread-first : (d t D E : ℕ) (X N : ℤ) → pos d *ℤ ((X *ℤ pos t -ℤ N *ℤ pos D) *ℤ pos E) ≡ pos (t * E) *ℤ (X *ℤ pos d) -ℤ pos (d * (D * E)) *ℤ N
spread-first d t D E = on_2 (λ X N. pos d *ℤ ((X *ℤ pos t -ℤ N *ℤ pos D) *ℤ pos E) ≡ pos (t * E) *ℤ (X *ℤ pos d) -ℤ pos (d * (D * E)) *ℤ N) (λ x x' n n'. simp ring (diff_eq _ _ _ _ (omega arith)))

swap-dens : (t D E : ℕ) (n m : ℤ) → (pos (t * E) *ℤ (n *ℤ pos D) ≡ pos (t * D) *ℤ (n *ℤ pos E)) × (pos 0 *ℤ m ≡ pos 0 *ℤ m)
swap-dens t D E = on_2 (λ n m. (pos (t * E) *ℤ (n *ℤ pos D) ≡ pos (t * D) *ℤ (n *ℤ pos E)) × (pos 0 *ℤ m ≡ pos 0 *ℤ m)) (λ n n' m m'. (simp ring (diff_eq _ _ _ _ (omega arith)), refl))

compared : (attr : ℕ) (t f : Fraction) (x y : Assignment) → Reaches x attr f
    → (pos f.den *ℤ (place attr t x *ℤ pos y.den) ≡ pos (t.den * x.den) *ℤ (f.num *ℤ pos y.den) -ℤ pos (f.den * (x.den * y.den)) *ℤ t.num)
    × (pos f.den *ℤ (place attr t y *ℤ pos x.den) ≡ pos (t.den * x.den) *ℤ (y.num attr *ℤ pos f.den) -ℤ pos (f.den * (x.den * y.den)) *ℤ t.num)
compared attr t f x y e = (
  spread-first f.den t.den x.den y.den (x.num attr) t.num
      ∙ ap (λ (z : ℤ). pos (t.den * y.den) *ℤ z -ℤ pos (f.den * (x.den * y.den)) *ℤ t.num) e
      ∙ ap (λ (z : ℤ). z -ℤ pos (f.den * (x.den * y.den)) *ℤ t.num) (swap-dens t.den x.den y.den f.num (pos 0)).0,
  spread-first f.den t.den y.den x.den (y.num attr) t.num
      ∙ ap (λ (n : ℕ). pos (t.den * x.den) *ℤ (y.num attr *ℤ pos f.den) -ℤ pos n *ℤ t.num) (let q : f.den * (y.den * x.den) ≡ f.den * (x.den * y.den) = omega arith in q),
)

-- y is above what x reaches: its place is higher
pub above_place : (attr : ℕ) (t f : Fraction) (x y : Assignment) → 0 < t.den → Reaches x attr f → IsAbove y attr f → (place attr t x *ℤ pos y.den) <ℤ (place attr t y *ℤ pos x.den)
above_place attr t f x y some e h =
    let c = compared attr t f x y e in
    let less = times_less (t.den * x.den) (f.num *ℤ pos y.den) (y.num attr *ℤ pos f.den) (product-up t.den x.den some x.positive) h in
    let first = c.0 in
    let second = c.1 in
    cancel_less f.den (place attr t x *ℤ pos y.den) (place attr t y *ℤ pos x.den) (omega (arith, ints, less, first, second))

pub below_place : (attr : ℕ) (t f : Fraction) (x y : Assignment) → 0 < t.den → Reaches x attr f → IsBelow y attr f → (place attr t y *ℤ pos x.den) <ℤ (place attr t x *ℤ pos y.den)
below_place attr t f x y some e h =
    let c = compared attr t f x y e in
    let less = times_less (t.den * x.den) (y.num attr *ℤ pos f.den) (f.num *ℤ pos y.den) (product-up t.den x.den some x.positive) h in
    let first = c.0 in
    let second = c.1 in
    cancel_less f.den (place attr t y *ℤ pos x.den) (place attr t x *ℤ pos y.den) (omega (arith, ints, less, first, second))

-- ---- a value and the next

-- the fraction t is v + 1; v - 1
abbrev pub IsNext : Fraction → Fraction → Type 0
IsNext v t = t.num *ℤ pos v.den ≡ (v.num +ℤ pos v.den) *ℤ pos t.den

abbrev pub IsLast : Fraction → Fraction → Type 0
IsLast v t = t.num *ℤ pos v.den ≡ (v.num -ℤ pos v.den) *ℤ pos t.den

spread-place : (w t D : ℕ) (X N : ℤ) → pos w *ℤ (X *ℤ pos t -ℤ N *ℤ pos D) ≡ pos t *ℤ (X *ℤ pos w) -ℤ pos D *ℤ (N *ℤ pos w)
spread-place w t D = on_2 (λ X N. pos w *ℤ (X *ℤ pos t -ℤ N *ℤ pos D) ≡ pos t *ℤ (X *ℤ pos w) -ℤ pos D *ℤ (N *ℤ pos w)) (λ x x' n n'. simp ring (diff_eq _ _ _ _ (omega arith)))

turn-dens : (t D : ℕ) (m k : ℤ) → (pos D *ℤ (m *ℤ pos t) ≡ pos t *ℤ (m *ℤ pos D)) × (pos 0 *ℤ k ≡ pos 0 *ℤ k)
turn-dens t D = on_2 (λ m k. (pos D *ℤ (m *ℤ pos t) ≡ pos t *ℤ (m *ℤ pos D)) × (pos 0 *ℤ k ≡ pos 0 *ℤ k)) (λ m m' k k'. (simp ring (diff_eq _ _ _ _ (omega arith)), refl))

-- v.den times the place of x at t is t.den times what x is above m, over v.den
pub place_at : (attr : ℕ) (v t : Fraction) (m : ℤ) (x : Assignment) → t.num *ℤ pos v.den ≡ m *ℤ pos t.den → pos v.den *ℤ place attr t x ≡ pos t.den *ℤ (x.num attr *ℤ pos v.den -ℤ m *ℤ pos x.den)
place_at attr v t m x e =
    spread-place v.den t.den x.den (x.num attr) t.num
    ∙ ap (λ (z : ℤ). pos t.den *ℤ (x.num attr *ℤ pos v.den) -ℤ z) (ap (λ (z : ℤ). pos x.den *ℤ z) e ∙ (turn-dens t.den x.den m (pos 0)).0)
    ∙ sym (mul-sub_left (pos t.den) (x.num attr *ℤ pos v.den) (m *ℤ pos x.den))

signed-low : (w t : ℕ) (p q : ℤ) → pos w *ℤ p ≡ pos t *ℤ q → 0 < w → 0 < t → q <ℤ pos 0 → p <ℤ pos 0
signed-low w t p q e up some low =
    let less : (pos t *ℤ q) <ℤ (pos t *ℤ pos 0) = times_less t q (pos 0) some low in
    let none : pos t *ℤ pos 0 ≡ pos w *ℤ pos 0 = mul-zero_ℤ (pos t) ∙ sym (mul-zero_ℤ (pos w)) in
    cancel_less w p (pos 0) (subst (λ (z : ℤ). z <ℤ (pos w *ℤ pos 0)) (sym e) (subst (λ (z : ℤ). (pos t *ℤ q) <ℤ z) none less))

signed-high : (w t : ℕ) (p q : ℤ) → pos w *ℤ p ≡ pos t *ℤ q → 0 < w → 0 < t → pos 0 <ℤ q → pos 0 <ℤ p
signed-high w t p q e up some high =
    let more : pos 0 <ℤ (pos t *ℤ q) = mul_positive t q some high in
    positive_from w p (subst (λ (z : ℤ). pos 0 <ℤ z) (sym e) more)

-- what reaches v is below v + 1, and above v - 1
pub reached_low : (attr : ℕ) (v t : Fraction) (x : Assignment) → 0 < v.den → 0 < t.den → IsNext v t → Reaches x attr v → place attr t x <ℤ pos 0
reached_low attr v t x up some next e =
    signed-low v.den t.den (place attr t x) (x.num attr *ℤ pos v.den -ℤ (v.num +ℤ pos v.den) *ℤ pos x.den) (place_at attr v t (v.num +ℤ pos v.den) x next) up some
    (let split : (v.num +ℤ pos v.den) *ℤ pos x.den ≡ v.num *ℤ pos x.den +ℤ pos v.den *ℤ pos x.den = add-mul_right v.num (pos v.den) (pos x.den) in
    let more : 0 < v.den * x.den = product-up v.den x.den up x.positive in
    omega (arith, ints, e, split, more))

pub reached_high : (attr : ℕ) (v t : Fraction) (x : Assignment) → 0 < v.den → 0 < t.den → IsLast v t → Reaches x attr v → pos 0 <ℤ place attr t x
reached_high attr v t x up some last e =
    signed-high v.den t.den (place attr t x) (x.num attr *ℤ pos v.den -ℤ (v.num -ℤ pos v.den) *ℤ pos x.den) (place_at attr v t (v.num -ℤ pos v.den) x last) up some
    (let split : (v.num -ℤ pos v.den) *ℤ pos x.den ≡ v.num *ℤ pos x.den -ℤ pos v.den *ℤ pos x.den = sub-right v.num (pos v.den) (pos x.den) in
    let more : 0 < v.den * x.den = product-up v.den x.den up x.positive in
    omega (arith, ints, e, split, more))

-- up to v + 1 is not above t, and so on
pub up_to_next : (attr : ℕ) (v t : Fraction) (x : Assignment) → 0 < v.den → 0 < t.den → IsNext v t → IsUpToNext x attr v → pos 0 <ℤ place attr t x → ⊥
up_to_next attr v t x up some next low high =
    let less : pos 0 <ℤ (x.num attr *ℤ pos v.den -ℤ (v.num +ℤ pos v.den) *ℤ pos x.den) =
    positive_from t.den _ (subst (λ (z : ℤ). pos 0 <ℤ z) (place_at attr v t (v.num +ℤ pos v.den) x next) (mul_positive v.den (place attr t x) up high)) in
    absurd (omega (arith, ints, less, low))

pub next_from : (attr : ℕ) (v t : Fraction) (x : Assignment) → 0 < v.den → 0 < t.den → IsNext v t → (pos 0 <ℤ place attr t x → ⊥) → IsUpToNext x attr v
next_from attr v t x up some next none =
    by-sign (x.num attr *ℤ pos v.den -ℤ (v.num +ℤ pos v.den) *ℤ pos x.den) refl
  where
    by-sign : (z : ℤ) → z ≡ x.num attr *ℤ pos v.den -ℤ (v.num +ℤ pos v.den) *ℤ pos x.den → IsUpToNext x attr v
    by-sign (pos (suc n)) e =
        absurd (none (signed-high v.den t.den (place attr t x) _ (place_at attr v t (v.num +ℤ pos v.den) x next) up some (subst (λ (z : ℤ). pos 0 <ℤ z) e (omega (arith, ints)))))
    by-sign (pos zero) e = omega (arith, ints, e)
    by-sign (negsuc n) e = omega (arith, ints, e)

pub down_to_last : (attr : ℕ) (v t : Fraction) (x : Assignment) → 0 < v.den → 0 < t.den → IsLast v t → IsDownToLast x attr v → place attr t x <ℤ pos 0 → ⊥
down_to_last attr v t x up some last high low =
    let e = place_at attr v t (v.num -ℤ pos v.den) x last in
    let less : (pos v.den *ℤ place attr t x) <ℤ (pos v.den *ℤ pos 0) = times_less v.den (place attr t x) (pos 0) up low in
    let none : pos v.den *ℤ pos 0 ≡ pos t.den *ℤ pos 0 = mul-zero_ℤ (pos v.den) ∙ sym (mul-zero_ℤ (pos t.den)) in
    let q = cancel_less t.den _ (pos 0) (subst (λ (z : ℤ). z <ℤ (pos t.den *ℤ pos 0)) e (subst (λ (z : ℤ). (pos v.den *ℤ place attr t x) <ℤ z) none less)) in
    absurd (omega (arith, ints, q, high))

pub last_from : (attr : ℕ) (v t : Fraction) (x : Assignment) → 0 < v.den → 0 < t.den → IsLast v t → (place attr t x <ℤ pos 0 → ⊥) → IsDownToLast x attr v
last_from attr v t x up some last none =
    by-sign (x.num attr *ℤ pos v.den -ℤ (v.num -ℤ pos v.den) *ℤ pos x.den) refl
  where
    by-sign : (z : ℤ) → z ≡ x.num attr *ℤ pos v.den -ℤ (v.num -ℤ pos v.den) *ℤ pos x.den → IsDownToLast x attr v
    by-sign (pos n) e = omega (arith, ints, e)
    by-sign (negsuc n) e =
        absurd (none (signed-low v.den t.den (place attr t x) _ (place_at attr v t (v.num -ℤ pos v.den) x last) up some (subst (λ (z : ℤ). z <ℤ pos 0) e (omega (arith, ints)))))
