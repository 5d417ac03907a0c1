-- The products of a piece: two values, ln/ld and hn/hd, and what lies between.
use Rattle.std.proofs.Common.{◌≡◌, ◌∙◌, ℕ, ◌+◌, ◌*◌, ℤ, pos, negsuc, ◌+ℤ◌, ◌-ℤ◌, ◌*ℤ◌, sym, ap, ap₂, arith}
use borrow.Author.Differences.{ints}
use Rattle.frac_core.proofs.Integers.{diff-add, diff-mul, diff-neg, diff-pos, diff_eq, neg-pos, on_1, on_2, on_3}
use Rattle.sweep_laws.proofs.Ring.{on_4, one-is}

ruleset ring = (diff-add, diff-mul, diff-neg, diff-pos, neg-pos)

-- D is how far the second constant is above the first
abbrev pub rate_num : ℤ → ℕ → ℤ → ℕ → ℕ → ℕ → ℤ
rate_num ln ld hn hd da db = (hn *ℤ pos ld -ℤ ln *ℤ pos hd) *ℤ pos (da * db)

abbrev pub rate_den : ℕ → ℕ → ℕ → ℕ
rate_den ld hd D = (ld * hd) * D

pub reach-whole : (ln hn : ℤ) (ld hd da db D : ℕ) → hn *ℤ (pos ld *ℤ (pos ((ld * hd) * D) *ℤ pos (db * da))) ≡ (ln *ℤ (pos ((ld * hd) * D) *ℤ pos (db * da)) +ℤ ((hn *ℤ pos ld -ℤ ln *ℤ pos hd) *ℤ pos (da * db)) *ℤ (pos D *ℤ pos ld)) *ℤ pos hd
reach-whole ln hn ld hd da db D = on_2 (λ ln hn. hn *ℤ (pos ld *ℤ (pos ((ld * hd) * D) *ℤ pos (db * da))) ≡ (ln *ℤ (pos ((ld * hd) * D) *ℤ pos (db * da)) +ℤ ((hn *ℤ pos ld -ℤ ln *ℤ pos hd) *ℤ pos (da * db)) *ℤ (pos D *ℤ pos ld)) *ℤ pos hd) (λ a a' b b'. simp ring (diff_eq _ _ _ _ (omega arith))) ln hn

-- w less a, over both denominators
pub step-is : (wn an : ℤ) (dw da u : ℕ) → wn *ℤ pos da ≡ an *ℤ pos dw +ℤ pos u → wn *ℤ (pos 1 *ℤ pos da) +ℤ negsuc 0 *ℤ (an *ℤ pos dw) ≡ pos u
step-is wn an dw da u h = omega (arith, ints, h)

-- the first value and the rate, so far on, over one denominator
abbrev mixed_num : ℤ → ℕ → ℤ → ℕ → ℕ → ℕ → ℤ
mixed_num ln ld hn hd s t = pos s *ℤ ln *ℤ pos hd +ℤ pos t *ℤ hn *ℤ pos ld

moved-left : (ln hn : ℤ) (ld hd da db dw D u : ℕ) → ln *ℤ (pos ((ld * hd) * D) *ℤ pos (dw * da)) +ℤ ((hn *ℤ pos ld -ℤ ln *ℤ pos hd) *ℤ pos (da * db)) *ℤ (pos u *ℤ pos ld) ≡ pos (ld * da) *ℤ (ln *ℤ pos (hd * (dw * D)) +ℤ (hn *ℤ pos ld -ℤ ln *ℤ pos hd) *ℤ pos (u * db))
moved-left ln hn ld hd da db dw D u = on_2 (λ ln hn. ln *ℤ (pos ((ld * hd) * D) *ℤ pos (dw * da)) +ℤ ((hn *ℤ pos ld -ℤ ln *ℤ pos hd) *ℤ pos (da * db)) *ℤ (pos u *ℤ pos ld) ≡ pos (ld * da) *ℤ (ln *ℤ pos (hd * (dw * D)) +ℤ (hn *ℤ pos ld -ℤ ln *ℤ pos hd) *ℤ pos (u * db))) (λ a a' b b'. simp ring (diff_eq _ _ _ _ (omega arith))) ln hn

moved-right : (ln hn : ℤ) (ld hd s t : ℕ) → ln *ℤ pos (hd * (s + t)) +ℤ (hn *ℤ pos ld -ℤ ln *ℤ pos hd) *ℤ pos t ≡ pos s *ℤ ln *ℤ pos hd +ℤ pos t *ℤ hn *ℤ pos ld
moved-right ln hn ld hd s t = on_2 (λ ln hn. ln *ℤ pos (hd * (s + t)) +ℤ (hn *ℤ pos ld -ℤ ln *ℤ pos hd) *ℤ pos t ≡ pos s *ℤ ln *ℤ pos hd +ℤ pos t *ℤ hn *ℤ pos ld) (λ a a' b b'. simp ring (diff_eq _ _ _ _ (omega arith))) ln hn

moved-num : (ln hn : ℤ) (ld hd da db dw D u s : ℕ) → dw * D ≡ s + u * db → ln *ℤ (pos ((ld * hd) * D) *ℤ pos (dw * da)) +ℤ ((hn *ℤ pos ld -ℤ ln *ℤ pos hd) *ℤ pos (da * db)) *ℤ (pos u *ℤ pos ld) ≡ pos (ld * da) *ℤ mixed_num ln ld hn hd s (u * db)
moved-num ln hn ld hd da db dw D u s e =
    moved-left ln hn ld hd da db dw D u
    ∙ ap (λ (n : ℕ). pos (ld * da) *ℤ (ln *ℤ pos (hd * n) +ℤ (hn *ℤ pos ld -ℤ ln *ℤ pos hd) *ℤ pos (u * db))) e
    ∙ ap (λ (z : ℤ). pos (ld * da) *ℤ z) (moved-right ln hn ld hd s (u * db))

moved-den : (ld hd da dw D T : ℕ) → dw * D ≡ T → ld * (((ld * hd) * D) * (dw * da)) ≡ (ld * da) * ((ld * hd) * T)
moved-den ld hd da dw D T e = turn ld hd da dw D ∙ ap (λ (n : ℕ). (ld * da) * ((ld * hd) * n)) e
  where
    turn : (ld hd da dw D : ℕ) → ld * (((ld * hd) * D) * (dw * da)) ≡ (ld * da) * ((ld * hd) * (dw * D))
    turn ld hd da dw D = omega arith

-- the mixed point's value
value-left : (ld hd : ℕ) (k x h y : ℤ) → (k *ℤ x +ℤ h *ℤ y) *ℤ pos (ld * hd) ≡ (k *ℤ (x *ℤ pos ld)) *ℤ pos hd +ℤ (h *ℤ (y *ℤ pos hd)) *ℤ pos ld
value-left ld hd = on_4 (λ k x h y. (k *ℤ x +ℤ h *ℤ y) *ℤ pos (ld * hd) ≡ (k *ℤ (x *ℤ pos ld)) *ℤ pos hd +ℤ (h *ℤ (y *ℤ pos hd)) *ℤ pos ld) (λ a a' b b' c c' d d'. simp ring (diff_eq _ _ _ _ (omega arith)))

value-right : (ld hd s t : ℕ) (x ln y hn : ℤ) → ((pos s *ℤ y) *ℤ (ln *ℤ x)) *ℤ pos hd +ℤ ((pos t *ℤ x) *ℤ (hn *ℤ y)) *ℤ pos ld ≡ (pos s *ℤ ln *ℤ pos hd +ℤ pos t *ℤ hn *ℤ pos ld) *ℤ (x *ℤ y)
value-right ld hd s t = on_4 (λ x ln y hn. ((pos s *ℤ y) *ℤ (ln *ℤ x)) *ℤ pos hd +ℤ ((pos t *ℤ x) *ℤ (hn *ℤ y)) *ℤ pos ld ≡ (pos s *ℤ ln *ℤ pos hd +ℤ pos t *ℤ hn *ℤ pos ld) *ℤ (x *ℤ y)) (λ a a' b b' c c' d d'. simp ring (diff_eq _ _ _ _ (omega arith)))

value-num : (ld hd s t : ℕ) (ln hn xv yv x y : ℤ) → xv *ℤ pos ld ≡ ln *ℤ x → yv *ℤ pos hd ≡ hn *ℤ y → ((pos s *ℤ y) *ℤ xv +ℤ (pos t *ℤ x) *ℤ yv) *ℤ pos (ld * hd) ≡ mixed_num ln ld hn hd s t *ℤ (x *ℤ y)
value-num ld hd s t ln hn xv yv x y e f =
    value-left ld hd (pos s *ℤ y) xv (pos t *ℤ x) yv
    ∙ ap₂ (λ (g h : ℤ). ((pos s *ℤ y) *ℤ g) *ℤ pos hd +ℤ ((pos t *ℤ x) *ℤ h) *ℤ pos ld) e f
    ∙ value-right ld hd s t x ln y hn

both-over : (A B T : ℕ) (z : ℤ) → z *ℤ pos (A * (B * T)) ≡ pos A *ℤ (pos T *ℤ (z *ℤ pos B))
both-over A B T = on_1 (λ z. z *ℤ pos (A * (B * T)) ≡ pos A *ℤ (pos T *ℤ (z *ℤ pos B))) (λ a a'. simp ring (diff_eq _ _ _ _ (omega arith)))

regroup : (A T : ℕ) (S o : ℤ) → pos A *ℤ (pos T *ℤ (S *ℤ o)) ≡ (pos A *ℤ S) *ℤ (pos T *ℤ o)
regroup A T = on_2 (λ S o. pos A *ℤ (pos T *ℤ (S *ℤ o)) ≡ (pos A *ℤ S) *ℤ (pos T *ℤ o)) (λ a a' b b'. simp ring (diff_eq _ _ _ _ (omega arith)))

-- the mixed point has the value that is so far on
pub moved-there : (ld hd da db dw D u s : ℕ) (ln hn xv yv x y step : ℤ) → dw * D ≡ s + u * db → step ≡ pos u → xv *ℤ pos ld ≡ ln *ℤ x → yv *ℤ pos hd ≡ hn *ℤ y
    → ((pos s *ℤ y) *ℤ xv +ℤ (pos (u * db) *ℤ x) *ℤ yv) *ℤ pos (ld * (((ld * hd) * D) * (dw * da))) ≡ (ln *ℤ (pos ((ld * hd) * D) *ℤ pos (dw * da)) +ℤ ((hn *ℤ pos ld -ℤ ln *ℤ pos hd) *ℤ pos (da * db)) *ℤ (step *ℤ pos ld)) *ℤ ((pos s *ℤ y) *ℤ x +ℤ (pos (u * db) *ℤ x) *ℤ y)
moved-there ld hd da db dw D u s ln hn xv yv x y step e f g h =
    ap (λ (n : ℕ). ((pos s *ℤ y) *ℤ xv +ℤ (pos (u * db) *ℤ x) *ℤ yv) *ℤ pos n) (moved-den ld hd da dw D (s + u * db) e)
    ∙ both-over (ld * da) (ld * hd) (s + u * db) ((pos s *ℤ y) *ℤ xv +ℤ (pos (u * db) *ℤ x) *ℤ yv)
    ∙ ap (λ (z : ℤ). pos (ld * da) *ℤ (pos (s + u * db) *ℤ z)) (value-num ld hd s (u * db) ln hn xv yv x y g h)
    ∙ regroup (ld * da) (s + u * db) (mixed_num ln ld hn hd s (u * db)) (x *ℤ y)
    ∙ ap₂ ◌*ℤ◌ (sym (moved-num ln hn ld hd da db dw D u s e)) (sym (one-is s (u * db) x y))
    ∙ ap (λ (z : ℤ). (ln *ℤ (pos ((ld * hd) * D) *ℤ pos (dw * da)) +ℤ ((hn *ℤ pos ld -ℤ ln *ℤ pos hd) *ℤ pos (da * db)) *ℤ (z *ℤ pos ld)) *ℤ ((pos s *ℤ y) *ℤ x +ℤ (pos (u * db) *ℤ x) *ℤ y)) (sym f)

-- both parts of the way are all of it
parts-left : (da db dw : ℕ) (an bn wn : ℤ) → (bn *ℤ pos dw -ℤ wn *ℤ pos db) *ℤ pos da +ℤ (wn *ℤ pos da -ℤ an *ℤ pos dw) *ℤ pos db ≡ pos dw *ℤ (bn *ℤ pos da -ℤ an *ℤ pos db)
parts-left da db dw = on_3 (λ an bn wn. (bn *ℤ pos dw -ℤ wn *ℤ pos db) *ℤ pos da +ℤ (wn *ℤ pos da -ℤ an *ℤ pos dw) *ℤ pos db ≡ pos dw *ℤ (bn *ℤ pos da -ℤ an *ℤ pos db)) (λ a a' b b' c c'. simp ring (diff_eq _ _ _ _ (omega arith)))

counts-same : (m n : ℕ) → pos m ≡ pos n → m ≡ n
counts-same m n e = omega (arith, ints, e)

count-of-parts : (v da u db : ℕ) → pos v *ℤ pos da +ℤ pos u *ℤ pos db ≡ pos (v * da + u * db)
count-of-parts v da u db = simp ring (diff_eq _ _ _ _ (omega arith))

count-product : (m n : ℕ) → pos m *ℤ pos n ≡ pos (m * n)
count-product m n = simp ring (diff_eq _ _ _ _ (omega arith))

pub whole-way : (da db dw D u v : ℕ) (an bn wn : ℤ) → bn *ℤ pos da ≡ an *ℤ pos db +ℤ pos D → wn *ℤ pos da ≡ an *ℤ pos dw +ℤ pos u → bn *ℤ pos dw ≡ wn *ℤ pos db +ℤ pos v → dw * D ≡ v * da + u * db
whole-way da db dw D u v an bn wn d e f =
    let first : bn *ℤ pos dw -ℤ wn *ℤ pos db ≡ pos v = omega (arith, ints, f) in
    let second : wn *ℤ pos da -ℤ an *ℤ pos dw ≡ pos u = omega (arith, ints, e) in
    let all : bn *ℤ pos da -ℤ an *ℤ pos db ≡ pos D = omega (arith, ints, d) in
    counts-same (dw * D) (v * da + u * db)
    (sym (count-product dw D) ∙ ap (λ (z : ℤ). pos dw *ℤ z) (sym all) ∙ sym (parts-left da db dw an bn wn) ∙ ap₂ (λ (g h : ℤ). g *ℤ pos da +ℤ h *ℤ pos db) first second ∙ count-of-parts v da u db)

-- ---- a piece of a single constant

one-out : (hn : ℤ) (ld n : ℕ) → hn *ℤ (pos ld *ℤ (pos 1 *ℤ pos n)) ≡ pos n *ℤ (hn *ℤ pos ld)
one-out hn ld n = on_1 (λ hn. hn *ℤ (pos ld *ℤ (pos 1 *ℤ pos n)) ≡ pos n *ℤ (hn *ℤ pos ld)) (λ a a'. simp ring (diff_eq _ _ _ _ (omega arith))) hn

still-out : (ln step x : ℤ) (ld n : ℕ) → (ln *ℤ (pos 1 *ℤ pos n) +ℤ pos 0 *ℤ (step *ℤ pos ld)) *ℤ x ≡ pos n *ℤ (ln *ℤ x)
still-out ln step x ld n = on_3 (λ ln step x. (ln *ℤ (pos 1 *ℤ pos n) +ℤ pos 0 *ℤ (step *ℤ pos ld)) *ℤ x ≡ pos n *ℤ (ln *ℤ x)) (λ a a' b b' c c'. simp ring (diff_eq _ _ _ _ (omega arith))) ln step x

pub still-reach : (ln hn step : ℤ) (ld hd n : ℕ) → ln *ℤ pos hd ≡ hn *ℤ pos ld → hn *ℤ (pos ld *ℤ (pos 1 *ℤ pos n)) ≡ (ln *ℤ (pos 1 *ℤ pos n) +ℤ pos 0 *ℤ (step *ℤ pos ld)) *ℤ pos hd
still-reach ln hn step ld hd n e = one-out hn ld n ∙ ap (λ (z : ℤ). pos n *ℤ z) (sym e) ∙ sym (still-out ln step (pos hd) ld n)

den-out : (z : ℤ) (ld n : ℕ) → z *ℤ pos (ld * (1 * n)) ≡ pos n *ℤ (z *ℤ pos ld)
den-out z ld n = on_1 (λ z. z *ℤ pos (ld * (1 * n)) ≡ pos n *ℤ (z *ℤ pos ld)) (λ a a'. simp ring (diff_eq _ _ _ _ (omega arith))) z

pub still-moved : (ld n : ℕ) (ln step z one : ℤ) → z *ℤ pos ld ≡ ln *ℤ one → z *ℤ pos (ld * (1 * n)) ≡ (ln *ℤ (pos 1 *ℤ pos n) +ℤ pos 0 *ℤ (step *ℤ pos ld)) *ℤ one
still-moved ld n ln step z one e = den-out z ld n ∙ ap (λ (w : ℤ). pos n *ℤ w) e ∙ sym (still-out ln step one ld n)
