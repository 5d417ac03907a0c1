-- The products of a constant that slides, each an identity of numbers.
use Rattle.std.proofs.Common.{◌≡◌, ◌∙◌, ℕ, ◌+◌, ◌*◌, ◌<◌, ℤ, pos, negsuc, ◌+ℤ◌, ◌-ℤ◌, ◌*ℤ◌, ◌≤ℤ◌, ◌<ℤ◌, refl, sym, ap, ap₂, subst, arith, mul-pos}
use borrow.Author.Differences.{ints}
use Rattle.frac_core.proofs.Integers.{diff, diff-add, diff-mul, diff-neg, diff-pos, diff_eq, neg-pos, on_1, on_2, on_3, cancel_mul, mul_positive}
use Rattle.frac_core.proofs.Numbers.{product-up}

ruleset ring = (diff-add, diff-mul, diff-neg, diff-pos, neg-pos)

pub on_4 : (P : ℤ → ℤ → ℤ → ℤ → Type 0) → ((a a' b b' c c' d d' : ℕ) → P (diff a a') (diff b b') (diff c c') (diff d d')) → (x y z w : ℤ) → P x y z w
on_4 P f x y z w = on_2 (λ s t. P s t z w) (λ a a' b b'. on_2 (λ s t. P (diff a a') (diff b b') s t) (λ c c' d d'. f a a' b b' c c' d d') z w) x y

-- a number that isn't negative is a count
pub as-count : (z : ℤ) → pos 0 ≤ℤ z → (n : ℕ) × (z ≡ pos n)
as-count (pos n) h = (n, refl)
as-count (negsuc n) h = absurd h.le

-- ---- the row's equation at a mix

both-sides : (da db dw : ℕ) (k hx h hy : ℤ) → pos (da * db) *ℤ (pos dw *ℤ (k *ℤ hx +ℤ h *ℤ hy)) ≡ pos dw *ℤ ((pos db *ℤ k) *ℤ (pos da *ℤ hx) +ℤ (pos da *ℤ h) *ℤ (pos db *ℤ hy))
both-sides da db dw = on_4 (λ k hx h hy. pos (da * db) *ℤ (pos dw *ℤ (k *ℤ hx +ℤ h *ℤ hy)) ≡ pos dw *ℤ ((pos db *ℤ k) *ℤ (pos da *ℤ hx) +ℤ (pos da *ℤ h) *ℤ (pos db *ℤ hy))) (λ a a' b b' c c' d d'. simp ring (diff_eq _ _ _ _ (omega arith)))

constants-out : (da db dw s t : ℕ) (an bn x y : ℤ) → pos dw *ℤ ((pos db *ℤ (pos s *ℤ y)) *ℤ (an *ℤ x) +ℤ (pos da *ℤ (pos t *ℤ x)) *ℤ (bn *ℤ y)) ≡ ((pos s *ℤ an *ℤ pos db +ℤ pos t *ℤ bn *ℤ pos da) *ℤ pos dw) *ℤ (x *ℤ y)
constants-out da db dw s t = on_4 (λ an bn x y. pos dw *ℤ ((pos db *ℤ (pos s *ℤ y)) *ℤ (an *ℤ x) +ℤ (pos da *ℤ (pos t *ℤ x)) *ℤ (bn *ℤ y)) ≡ ((pos s *ℤ an *ℤ pos db +ℤ pos t *ℤ bn *ℤ pos da) *ℤ pos dw) *ℤ (x *ℤ y)) (λ a a' b b' c c' d d'. simp ring (diff_eq _ _ _ _ (omega arith)))

one-out : (da db s t : ℕ) (wn x y : ℤ) → pos (da * db) *ℤ (wn *ℤ ((pos s *ℤ y) *ℤ x +ℤ (pos t *ℤ x) *ℤ y)) ≡ (wn *ℤ pos ((s + t) * (da * db))) *ℤ (x *ℤ y)
one-out da db s t = on_3 (λ wn x y. pos (da * db) *ℤ (wn *ℤ ((pos s *ℤ y) *ℤ x +ℤ (pos t *ℤ x) *ℤ y)) ≡ (wn *ℤ pos ((s + t) * (da * db))) *ℤ (x *ℤ y)) (λ a a' b b' c c'. simp ring (diff_eq _ _ _ _ (omega arith)))

-- where the two constants mix to the third, so do the equations
pub mixed-equation : (da db dw s t : ℕ) (an bn wn hx hy x y : ℤ) → 0 < da → 0 < db → wn *ℤ pos ((s + t) * (da * db)) ≡ (pos s *ℤ an *ℤ pos db +ℤ pos t *ℤ bn *ℤ pos da) *ℤ pos dw
    → pos da *ℤ hx ≡ an *ℤ x → pos db *ℤ hy ≡ bn *ℤ y → pos dw *ℤ ((pos s *ℤ y) *ℤ hx +ℤ (pos t *ℤ x) *ℤ hy) ≡ wn *ℤ ((pos s *ℤ y) *ℤ x +ℤ (pos t *ℤ x) *ℤ y)
mixed-equation da db dw s t an bn wn hx hy x y ha hb mixes first second =
    cancel_mul (da * db) _ _ (mul-pos ha hb)
    (both-sides da db dw (pos s *ℤ y) hx (pos t *ℤ x) hy
    ∙ ap₂ (λ (e f : ℤ). pos dw *ℤ ((pos db *ℤ (pos s *ℤ y)) *ℤ e +ℤ (pos da *ℤ (pos t *ℤ x)) *ℤ f)) first second
    ∙ constants-out da db dw s t an bn x y
    ∙ ap (λ (e : ℤ). e *ℤ (x *ℤ y)) (sym mixes)
    ∙ sym (one-out da db s t wn x y))

pub one-is : (s t : ℕ) (x y : ℤ) → (pos s *ℤ y) *ℤ x +ℤ (pos t *ℤ x) *ℤ y ≡ pos (s + t) *ℤ (x *ℤ y)
one-is s t = on_2 (λ x y. (pos s *ℤ y) *ℤ x +ℤ (pos t *ℤ x) *ℤ y ≡ pos (s + t) *ℤ (x *ℤ y)) (λ a a' b b'. simp ring (diff_eq _ _ _ _ (omega arith)))

pub mixed-one : (s t : ℕ) (x y : ℤ) → 0 < s + t → pos 0 <ℤ x → pos 0 <ℤ y → pos 0 <ℤ ((pos s *ℤ y) *ℤ x +ℤ (pos t *ℤ x) *ℤ y)
mixed-one s t x y some hx hy = subst (λ (z : ℤ). pos 0 <ℤ z) (sym (one-is s t x y)) (mul_positive (s + t) (x *ℤ y) some (product-up x y hx hy))

-- ---- a constant between two

left-out : (da db u v : ℕ) (wn : ℤ) → wn *ℤ pos ((v * da + u * db) * (da * db)) ≡ pos (da * db) *ℤ (pos v *ℤ (wn *ℤ pos da) +ℤ pos u *ℤ (wn *ℤ pos db))
left-out da db u v = on_1 (λ wn. wn *ℤ pos ((v * da + u * db) * (da * db)) ≡ pos (da * db) *ℤ (pos v *ℤ (wn *ℤ pos da) +ℤ pos u *ℤ (wn *ℤ pos db))) (λ a a'. simp ring (diff_eq _ _ _ _ (omega arith)))

right-out : (da db dw u v : ℕ) (an bn : ℤ) → (pos (v * da) *ℤ an *ℤ pos db +ℤ pos (u * db) *ℤ bn *ℤ pos da) *ℤ pos dw ≡ pos (da * db) *ℤ (pos v *ℤ (an *ℤ pos dw) +ℤ pos u *ℤ (bn *ℤ pos dw))
right-out da db dw u v = on_2 (λ an bn. (pos (v * da) *ℤ an *ℤ pos db +ℤ pos (u * db) *ℤ bn *ℤ pos da) *ℤ pos dw ≡ pos (da * db) *ℤ (pos v *ℤ (an *ℤ pos dw) +ℤ pos u *ℤ (bn *ℤ pos dw))) (λ a a' b b'. simp ring (diff_eq _ _ _ _ (omega arith)))

crossed : (u v : ℕ) (a b : ℤ) → pos v *ℤ (a +ℤ pos u) +ℤ pos u *ℤ (b -ℤ pos v) ≡ pos v *ℤ a +ℤ pos u *ℤ b
crossed u v = on_2 (λ a b. pos v *ℤ (a +ℤ pos u) +ℤ pos u *ℤ (b -ℤ pos v) ≡ pos v *ℤ a +ℤ pos u *ℤ b) (λ a a' b b'. simp ring (diff_eq _ _ _ _ (omega arith)))

-- u is how far the constant is above the first, and v how far below the second
pub mixes-between : (da db dw u v : ℕ) (an bn wn : ℤ) → wn *ℤ pos da ≡ an *ℤ pos dw +ℤ pos u → bn *ℤ pos dw ≡ wn *ℤ pos db +ℤ pos v
    → wn *ℤ pos ((v * da + u * db) * (da * db)) ≡ (pos (v * da) *ℤ an *ℤ pos db +ℤ pos (u * db) *ℤ bn *ℤ pos da) *ℤ pos dw
mixes-between da db dw u v an bn wn low up =
    let turned : wn *ℤ pos db ≡ bn *ℤ pos dw -ℤ pos v = omega (arith, ints, up) in
    left-out da db u v wn
    ∙ ap₂ (λ (e f : ℤ). pos (da * db) *ℤ (pos v *ℤ e +ℤ pos u *ℤ f)) low turned
    ∙ ap (λ (e : ℤ). pos (da * db) *ℤ e) (crossed u v (an *ℤ pos dw) (bn *ℤ pos dw))
    ∙ sym (right-out da db dw u v an bn)

same-left : (da db : ℕ) (wn : ℤ) → wn *ℤ pos ((1 + 0) * (da * db)) ≡ pos db *ℤ (wn *ℤ pos da)
same-left da db = on_1 (λ wn. wn *ℤ pos ((1 + 0) * (da * db)) ≡ pos db *ℤ (wn *ℤ pos da)) (λ a a'. simp ring (diff_eq _ _ _ _ (omega arith)))

same-right : (da db dw : ℕ) (an bn : ℤ) → (pos 1 *ℤ an *ℤ pos db +ℤ pos 0 *ℤ bn *ℤ pos da) *ℤ pos dw ≡ pos db *ℤ (an *ℤ pos dw)
same-right da db dw = on_2 (λ an bn. (pos 1 *ℤ an *ℤ pos db +ℤ pos 0 *ℤ bn *ℤ pos da) *ℤ pos dw ≡ pos db *ℤ (an *ℤ pos dw)) (λ a a' b b'. simp ring (diff_eq _ _ _ _ (omega arith)))

-- the first constant mixes itself
pub mixes-first : (da db dw : ℕ) (an bn wn : ℤ) → wn *ℤ pos da ≡ an *ℤ pos dw → wn *ℤ pos ((1 + 0) * (da * db)) ≡ (pos 1 *ℤ an *ℤ pos db +ℤ pos 0 *ℤ bn *ℤ pos da) *ℤ pos dw
mixes-first da db dw an bn wn e = same-left da db wn ∙ ap (λ (z : ℤ). pos db *ℤ z) e ∙ sym (same-right da db dw an bn)
