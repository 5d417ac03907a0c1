-- The products of what moves with a constant.
use Rattle.std.proofs.Common.{◌≡◌, ◌∙◌, ℕ, ◌*◌, ◌<◌, Bool, true, false, ℤ, pos, negsuc, ◌+ℤ◌, ◌-ℤ◌, ◌*ℤ◌, neg_ℤ, ◌<ℤ◌, sym, ap, subst, arith}
use borrow.Author.Differences.{ints}
use Rattle.frac_core.specs.Fraction.{Fraction, IsRatio, sum_den, sum_num}
use Rattle.frac_core.proofs.Integers.{cancel_mul, diff-add, diff-mul, diff-neg, diff-pos, diff_eq, mul_left_comm_ℤ, neg-pos, on_1, on_2, on_3}
use Rattle.frac_core.proofs.Numbers.{as-natural, one-times}
use Rattle.corner_lines.proofs.Lines.LineCarried.{carried-value}
use Rattle.sweep_laws.specs.Fractions.{difference}
use Rattle.sweep_run.specs.Ways.{backwards, far_back}

ruleset ring = (diff-add, diff-mul, diff-neg, diff-pos, neg-pos)

-- ---- one value in place of another

taken-in : (fd s : ℕ) (n z : ℤ) → pos fd *ℤ (pos s *ℤ (n *ℤ z)) ≡ pos s *ℤ ((n *ℤ pos fd) *ℤ z)
taken-in fd s = on_2 (λ n z. pos fd *ℤ (pos s *ℤ (n *ℤ z)) ≡ pos s *ℤ ((n *ℤ pos fd) *ℤ z)) (λ a a' b b'. simp ring (diff_eq _ _ _ _ (omega arith)))

pub other-value : (den fd s : ℕ) (num fn x z : ℤ) → 0 < den → pos den *ℤ x ≡ pos s *ℤ (num *ℤ z) → num *ℤ pos fd ≡ fn *ℤ pos den → pos fd *ℤ x ≡ pos s *ℤ (fn *ℤ z)
other-value den fd s num fn x z above h e =
    cancel_mul den (pos fd *ℤ x) (pos s *ℤ (fn *ℤ z)) above
    (mul_left_comm_ℤ (pos den) (pos fd) x
    ∙ ap (λ (y : ℤ). pos fd *ℤ y) h
    ∙ taken-in fd s num z
    ∙ ap (λ (y : ℤ). pos s *ℤ (y *ℤ z)) e
    ∙ sym (taken-in den s fn z))

-- ---- two points at one corner

left-out : (fd one : ℕ) (q : ℤ) → pos one *ℤ (pos fd *ℤ q) ≡ pos fd *ℤ (q *ℤ pos one)
left-out fd one = on_1 (λ q. pos one *ℤ (pos fd *ℤ q) ≡ pos fd *ℤ (q *ℤ pos one)) (λ a a'. simp ring (diff_eq _ _ _ _ (omega arith)))

swapped : (fd : ℕ) (xc z : ℤ) → pos fd *ℤ (xc *ℤ z) ≡ (xc *ℤ pos fd) *ℤ z
swapped fd = on_2 (λ xc z. pos fd *ℤ (xc *ℤ z) ≡ (xc *ℤ pos fd) *ℤ z) (λ a a' b b'. simp ring (diff_eq _ _ _ _ (omega arith)))

out-again : (one : ℕ) (fn z : ℤ) → (fn *ℤ pos one) *ℤ z ≡ pos one *ℤ (fn *ℤ z)
out-again one = on_2 (λ fn z. (fn *ℤ pos one) *ℤ z ≡ pos one *ℤ (fn *ℤ z)) (λ a a' b b'. simp ring (diff_eq _ _ _ _ (omega arith)))

count-agree : (fd one : ℕ) (xc q fn z : ℤ) → 0 < one → xc *ℤ z ≡ q *ℤ pos one → xc *ℤ pos fd ≡ fn *ℤ pos one → pos fd *ℤ q ≡ fn *ℤ z
count-agree fd one xc q fn z above same value =
    cancel_mul one (pos fd *ℤ q) (fn *ℤ z) above
    (left-out fd one q
    ∙ ap (λ (y : ℤ). pos fd *ℤ y) (sym same)
    ∙ swapped fd xc z
    ∙ ap (λ (y : ℤ). y *ℤ z) value
    ∙ out-again one fn z)

-- the value xc/x1, which is fn/fd, is that of the other point, q/z
pub points-agree : (fd : ℕ) (xc x1 q fn z : ℤ) → pos 0 <ℤ x1 → xc *ℤ z ≡ q *ℤ x1 → xc *ℤ pos fd ≡ fn *ℤ x1 → pos fd *ℤ q ≡ fn *ℤ z
points-agree fd xc x1 q fn z above same value =
    let n = as-natural x1 above in
    count-agree fd n.0 xc q fn z n.1 (subst (λ (o : ℤ). xc *ℤ z ≡ q *ℤ o) n.2 same) (subst (λ (o : ℤ). xc *ℤ pos fd ≡ fn *ℤ o) n.2 value)

-- ---- the value so far back

-- vd*(d*A - b*w) = own*(vn*(d*y1)), w = m*y1
pub moved-value : (vd d den own : ℕ) (A w b vn m num y1 : ℤ) → 0 < vd → 0 < d → pos vd *ℤ (pos d *ℤ A -ℤ b *ℤ w) ≡ pos own *ℤ (vn *ℤ (pos d *ℤ y1)) → w ≡ m *ℤ y1
    → num *ℤ (pos vd *ℤ (pos own *ℤ pos d)) ≡ (vn *ℤ (pos own *ℤ pos d) +ℤ b *ℤ (m *ℤ pos vd)) *ℤ pos den → pos den *ℤ A ≡ pos own *ℤ (num *ℤ y1)
moved-value vd d den own A w b vn m num y1 va da h k r =
    let all : pos den *ℤ (pos 1 *ℤ (pos d *ℤ A -ℤ b *ℤ w) +ℤ b *ℤ w) ≡ pos (1 * own) *ℤ (num *ℤ (pos d *ℤ y1)) =
    carried-value vd d den 1 own (pos d *ℤ A -ℤ b *ℤ w) w b vn m num (pos d *ℤ y1) va da h
    (ap (λ (z : ℤ). pos d *ℤ z) k ∙ mul_left_comm_ℤ (pos d) m y1 ∙ (let o : m *ℤ (pos d *ℤ y1) ≡ pos 1 *ℤ (m *ℤ (pos d *ℤ y1)) = omega (arith, ints) in o)) r in
    let inner : pos 1 *ℤ (pos d *ℤ A -ℤ b *ℤ w) +ℤ b *ℤ w ≡ pos d *ℤ A = omega (arith, ints) in
    cancel_mul d (pos den *ℤ A) (pos own *ℤ (num *ℤ y1)) da
    (mul_left_comm_ℤ (pos d) (pos den) A ∙ ap (λ (z : ℤ). pos den *ℤ z) (sym inner) ∙ all ∙ ap (λ (n : ℕ). pos n *ℤ (num *ℤ (pos d *ℤ y1))) (let o : 1 * own ≡ own = omega arith in o)
    ∙ ap (λ (z : ℤ). pos own *ℤ z) (mul_left_comm_ℤ num (pos d) y1) ∙ mul_left_comm_ℤ (pos own) (pos d) (num *ℤ y1))

-- the gap, seen from the other side
pub turned-gap : (a b : Fraction) → (difference a b).num ≡ neg_ℤ (difference b a).num
turned-gap a b =
    let one-a : pos 1 *ℤ pos a.den ≡ pos a.den = one-times (pos a.den) in
    let one-b : pos 1 *ℤ pos b.den ≡ pos b.den = one-times (pos b.den) in
    plain a.num b.num (pos a.den) (pos b.den) (pos 1 *ℤ pos a.den) (pos 1 *ℤ pos b.den) one-a one-b
  where
    plain : (an bn ad bd oa ob : ℤ) → oa ≡ ad → ob ≡ bd → an *ℤ ob +ℤ negsuc 0 *ℤ (bn *ℤ ad) ≡ neg_ℤ (bn *ℤ oa +ℤ negsuc 0 *ℤ (an *ℤ bd))
    plain an bn ad bd oa ob f g =
        let u : an *ℤ ob ≡ an *ℤ bd = ap (λ (z : ℤ). an *ℤ z) g in
        let v : bn *ℤ oa ≡ bn *ℤ ad = ap (λ (z : ℤ). bn *ℤ z) f in
        omega (arith, ints, u, v)

both-turned : (k m q : ℤ) → neg_ℤ k *ℤ (neg_ℤ m *ℤ q) ≡ k *ℤ (m *ℤ q)
both-turned = on_3 (λ k m q. neg_ℤ k *ℤ (neg_ℤ m *ℤ q) ≡ k *ℤ (m *ℤ q)) (λ a a' b b' c c'. simp ring (diff_eq _ _ _ _ (omega arith)))

-- the ratio of a value so far back, by the gap above the end
abbrev pub IsMovedRatio : Fraction → Fraction → Fraction → Fraction → ℤ → ℕ → Type 0
IsMovedRatio e w f value b own = value.num *ℤ (pos f.den *ℤ (pos own *ℤ pos (w.den * e.den))) ≡ (f.num *ℤ (pos own *ℤ pos (w.den * e.den)) +ℤ b *ℤ ((difference w e).num *ℤ pos f.den)) *ℤ pos value.den

pub moved-ratio : (up : Bool) (e w f value : Fraction) (b : ℤ) (own : ℕ) → IsRatio value (sum_num f (backwards up b) (pos own) (far_back up w e)) (sum_den f (pos own) (far_back up w e)) → IsMovedRatio e w f value b own
moved-ratio true e w f value b own r =
    subst (λ (t : ℤ). value.num *ℤ (pos f.den *ℤ (pos own *ℤ pos (w.den * e.den))) ≡ (f.num *ℤ (pos own *ℤ pos (w.den * e.den)) +ℤ t) *ℤ pos value.den)
    (ap (λ (g : ℤ). neg_ℤ b *ℤ (g *ℤ pos f.den)) (turned-gap e w) ∙ both-turned b (difference w e).num (pos f.den))
    (subst (λ (d : ℕ). value.num *ℤ (pos f.den *ℤ (pos own *ℤ pos d)) ≡ (f.num *ℤ (pos own *ℤ pos d) +ℤ neg_ℤ b *ℤ ((difference e w).num *ℤ pos f.den)) *ℤ pos value.den) (let turn : e.den * w.den ≡ w.den * e.den = omega arith in turn) r)
moved-ratio false e w f value b own r = r
