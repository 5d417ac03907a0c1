-- The sign of a gap from the sum of the terms over a common denominator of the values.
use Rattle.std.proofs.Common.{◌≡◌, ℕ, suc, ◌*◌, ◌/◌, ◌<◌, ◌≤◌, ◌^◌, List, [], ◌∷◌, ℤ, pos, neg_ℤ, ◌+ℤ◌, ◌-ℤ◌, ◌*ℤ◌, ◌<ℤ◌, sym, ap, ap₂, subst, ◌∙◌, inl, inr, arith, All, unsigned_abs, Result, Ok, Err, OnErr, mul-le-mul_left, mul-le-mul_right}
use Rattle.std.proofs.lemmas.Bool.{cases_lt}
use Rattle.std.specs.Int.{◌∣◌}
use Rattle.std.specs.Ordering.{int_cmp}
use Rattle.std.specs.List.{AllByRecursion as Each}
use Rattle.std.proofs.lemmas.List.Elements.{recursion_from_All, All-from_recursion, All-weaker}
use Rattle.std.proofs.Math.Nat.{div-mul_cancel}
use Rattle.std.proofs.lemmas.Nat.Gcd.{le_of_dvd}
use Rattle.std.proofs.lemmas.Int.{unsigned_abs-mul}
use borrow.Author.Differences.{ints}
use Rattle.frac_core.specs.Fraction.{Fraction}
use Rattle.frac_core.proofs.Integers.{diff_eq, diff-add, diff-mul, diff-neg, diff-pos, neg-pos, on_2, add-mul_right, mul_positive, positive_from, sign_cases, zero_from_mul, same_from_sub}
use Rattle.problem_core.specs.declared.parts.Term.{Term}
use Rattle.problem_core.specs.Common.{IsLeastCommon}
use Rattle.problem_core.specs.Layout.{Row, Assignment, Gives, gap, line_of_row, value_at}
use Rattle.problem_core.specs.Gaps.{HasValue, HasGapRoom, HasRoomOver, value_of, value_dens, times_common, scaled_sum}
use Rattle.problem_core.proofs.Forms.{each-impl, each-both}
use Rattle.problem_core.proofs.GapFacts.Lookups.{given-value}
use Rattle.frac_core.proofs.Numbers.{divisor-above, pos-mul-neg as neg_left}

ruleset ring = (diff-add, diff-mul, diff-neg, diff-pos, neg-pos)

-- ---- the terms

left_term : (s den : ℕ) (b n : ℤ) → (b *ℤ n) *ℤ pos (s * den) ≡ (b *ℤ pos s) *ℤ (n *ℤ pos den)
left_term s den = on_2 (λ b n. (b *ℤ n) *ℤ pos (s * den) ≡ (b *ℤ pos s) *ℤ (n *ℤ pos den)) (λ a a' b b'. simp ring (diff_eq _ _ _ _ (omega arith)))

right_term : (s d : ℕ) (b m : ℤ) → (b *ℤ pos s) *ℤ (m *ℤ pos d) ≡ (b *ℤ (m *ℤ pos s)) *ℤ pos d
right_term s d = on_2 (λ b m. (b *ℤ pos s) *ℤ (m *ℤ pos d) ≡ (b *ℤ (m *ℤ pos s)) *ℤ pos d) (λ a a' b b'. simp ring (diff_eq _ _ _ _ (omega arith)))

term-over : (whole s den d : ℕ) (b n m : ℤ) → s * den ≡ whole → n *ℤ pos den ≡ m *ℤ pos d → (b *ℤ n) *ℤ pos whole ≡ (b *ℤ (m *ℤ pos s)) *ℤ pos d
term-over whole s den d b n m e f =
    ap (λ (w : ℕ). (b *ℤ n) *ℤ pos w) (sym e) ∙ left_term s den b n ∙ ap (λ (z : ℤ). (b *ℤ pos s) *ℤ z) f ∙ right_term s d b m

terms-over : (x : Assignment) (values : List (ℕ × Fraction)) (d : ℕ) (terms : List Term) → Each (λ t. ((value_of values t.attr).den ∣ d) × (x.num t.attr *ℤ pos (value_of values t.attr).den ≡ (value_of values t.attr).num *ℤ pos x.den)) terms → value_at x.num terms *ℤ pos d ≡ scaled_sum values d terms *ℤ pos x.den
terms-over x values d [] h = omega (arith, ints)
terms-over x values d (t ∷ terms) h =
    let f : Fraction = value_of values t.attr in
    add-mul_right (t.by *ℤ x.num t.attr) (value_at x.num terms) (pos d)
    ∙ ap₂ ◌+ℤ◌ (term-over d (d / (value_of values t.attr).den) (value_of values t.attr).den x.den t.by (x.num t.attr) (value_of values t.attr).num (div-mul_cancel (value_of values t.attr).den h.0.0) h.0.1) (terms-over x values d terms h.1)
    ∙ sym (add-mul_right (t.by *ℤ times_common (value_of values t.attr) d) (scaled_sum values d terms) (pos x.den))

-- ---- the gap

pub left_gap : (whole q d : ℕ) (v p : ℤ) → pos whole *ℤ (pos q *ℤ v -ℤ p *ℤ pos d) ≡ pos q *ℤ (v *ℤ pos whole) -ℤ p *ℤ pos (d * whole)
left_gap whole q d = on_2 (λ v p. pos whole *ℤ (pos q *ℤ v -ℤ p *ℤ pos d) ≡ pos q *ℤ (v *ℤ pos whole) -ℤ p *ℤ pos (d * whole)) (λ a a' b b'. simp ring (diff_eq _ _ _ _ (omega arith)))

pub right_gap : (whole q d : ℕ) (s p : ℤ) → pos q *ℤ (s *ℤ pos d) -ℤ p *ℤ pos (d * whole) ≡ pos d *ℤ (s *ℤ pos q -ℤ p *ℤ pos whole)
right_gap whole q d = on_2 (λ s p. pos q *ℤ (s *ℤ pos d) -ℤ p *ℤ pos (d * whole) ≡ pos d *ℤ (s *ℤ pos q -ℤ p *ℤ pos whole)) (λ a a' b b'. simp ring (diff_eq _ _ _ _ (omega arith)))

pub gap-over : (whole q d : ℕ) (v s p : ℤ) → v *ℤ pos whole ≡ s *ℤ pos d → pos whole *ℤ (pos q *ℤ v -ℤ p *ℤ pos d) ≡ pos d *ℤ (s *ℤ pos q -ℤ p *ℤ pos whole)
gap-over whole q d v s p e = left_gap whole q d v p ∙ ap (λ (z : ℤ). pos q *ℤ z -ℤ p *ℤ pos (d * whole)) e ∙ right_gap whole q d s p

-- ---- the order

neg_diff : (d : ℕ) (a b : ℤ) → neg_ℤ (pos d *ℤ (a -ℤ b)) ≡ pos d *ℤ (b -ℤ a)
neg_diff d = on_2 (λ a b. neg_ℤ (pos d *ℤ (a -ℤ b)) ≡ pos d *ℤ (b -ℤ a)) (λ a a' b b'. simp ring (diff_eq _ _ _ _ (omega arith)))

cmp-equal : (a b : ℤ) → a ≡ b → int_cmp a b ≡ int_cmp (pos 0) (pos 0)
cmp-equal a b e = grind (arith, ints)

cmp-less : (a b g h : ℤ) → a <ℤ b → g <ℤ h → int_cmp a b ≡ int_cmp g h
cmp-less a b g h l m = grind (arith, ints)

cmp-greater : (a b g h : ℤ) → b <ℤ a → h <ℤ g → int_cmp a b ≡ int_cmp g h
cmp-greater a b g h l m = grind (arith, ints)

pub same-order : (w d : ℕ) (g a b : ℤ) → 0 < w → 0 < d → pos w *ℤ g ≡ pos d *ℤ (a -ℤ b) → int_cmp a b ≡ int_cmp g (pos 0)
same-order w d g a b some_w some_d e =
    elim (sign_cases g) [
      | inl z ↦
          let none : pos d *ℤ (a -ℤ b) ≡ pos 0 = sym e ∙ ap (λ (t : ℤ). pos w *ℤ t) z ∙ (omega (arith, ints)) in
          cmp-equal a b (same_from_sub a b (zero_from_mul d (a -ℤ b) some_d none)) ∙ ap (λ (t : ℤ). int_cmp t (pos 0)) (sym z)
      | inr s ↦ elim s [
        | inl h ↦
            let more : pos 0 <ℤ (a -ℤ b) = positive_from d (a -ℤ b) (subst (λ (t : ℤ). pos 0 <ℤ t) e (mul_positive w g some_w h)) in
            cmp-greater a b g (pos 0) (omega (arith, ints, more)) h
        | inr h ↦
            let less : pos 0 <ℤ (b -ℤ a) = positive_from d (b -ℤ a) (subst (λ (t : ℤ). pos 0 <ℤ t) (neg_left w g ∙ ap neg_ℤ e ∙ neg_diff d a b) (mul_positive w (neg_ℤ g) some_w h)) in
            cmp-less a b g (pos 0) (omega (arith, ints, less)) (omega (arith, ints, h))
      ]
    ]

-- ---- the whole

each-listed : (values : List (ℕ × Fraction)) (d : ℕ) (terms : List Term) → Each (λ x. x ∣ d) (value_dens values terms) → Each (λ t. (value_of values t.attr).den ∣ d) terms
each-listed values d [] h = tt
each-listed values d (t ∷ terms) h = (h.0, each-listed values d terms h.1)

listed : (values : List (ℕ × Fraction)) (d : ℕ) (terms : List Term) → Each (λ t. (value_of values t.attr).den ∣ d) terms → Each (λ x. x ∣ d) (value_dens values terms)
listed values d [] h = tt
listed values d (t ∷ terms) h = (h.0, listed values d terms h.1)

listed-each : (values : List (ℕ × Fraction)) (d : ℕ) (terms : List Term) → Each (λ t. (value_of values t.attr).den ∣ d) terms → All (λ x. x ∣ d) (value_dens values terms)
listed-each values d terms h = All-from_recursion (λ x. x ∣ d) (value_dens values terms) (listed values d terms h)

pub sign-is : (r : Row) (values : List (ℕ × Fraction)) (d : ℕ) → 0 < d → All (λ x. x ∣ d) (value_dens values r.terms) → All (λ t. HasValue values t.attr) r.terms → (x : Assignment) → Gives values x → int_cmp (scaled_sum values d r.terms *ℤ pos r.constant.den) (r.constant.num *ℤ pos d) ≡ int_cmp (gap x (line_of_row r)) (pos 0)
sign-is r values d some divides has x gives =
    let given = recursion_from_All (λ u. x.num u.0 *ℤ pos u.1.den ≡ u.1.num *ℤ pos x.den) values gives in
    let each = each-both (λ t. (value_of values t.attr).den ∣ d) (λ t. x.num t.attr *ℤ pos (value_of values t.attr).den ≡ (value_of values t.attr).num *ℤ pos x.den) r.terms
    (each-listed values d r.terms (recursion_from_All (λ x. x ∣ d) (value_dens values r.terms) divides))
    (each-impl (λ t. HasValue values t.attr) _ r.terms (λ t h. given-value x values t.attr given h) (recursion_from_All (λ t. HasValue values t.attr) r.terms has)) in
    same-order d x.den (gap x (line_of_row r)) (scaled_sum values d r.terms *ℤ pos r.constant.den) (r.constant.num *ℤ pos d) some x.positive
    (gap-over d r.constant.den x.den (value_at x.num r.terms) (scaled_sum values d r.terms) r.constant.num (terms-over x values d r.terms each))

-- ---- room

pub room-is : (r : Row) (values : List (ℕ × Fraction)) (d : ℕ) → d < 2 ^ 62 → IsLeastCommon (value_dens values r.terms) d → All (λ t. unsigned_abs (times_common (value_of values t.attr) d) < 2 ^ 62) r.terms → HasGapRoom r values
room-is r values d small least fits = (
  d,
  least.above,
  small,
  All-from_recursion (λ t. HasRoomOver d (value_of values t.attr)) r.terms
      (each-both _ _ r.terms (each-listed values d r.terms (recursion_from_All (λ x. x ∣ d) (value_dens values r.terms) least.common)) (recursion_from_All (λ t. unsigned_abs (times_common (value_of values t.attr) d) < 2 ^ 62) r.terms fits)),
)

pub large-none : (r : Row) (values : List (ℕ × Fraction)) (d : ℕ) → 2 ^ 62 ≤ d → ((m : ℕ) → 0 < m → All (λ t. (value_of values t.attr).den ∣ m) r.terms → d ≤ m) → HasGapRoom r values → ⊥
large-none r values d large least (m, some, small, room) =
    omega (arith, large, small, least m some (All-weaker (λ t. HasRoomOver m (value_of values t.attr)) (λ t. (value_of values t.attr).den ∣ m) (λ t h. h.0) r.terms room))

share-le : (a b c : ℕ) → 0 < c → a * c ≤ b * c → a ≤ b
share-le a b c some h =
    elim (cases_lt b a) [
      | inl l ↦ absurd (omega (arith, h, some, mul-le-mul_right c (let m : suc b ≤ a = omega (arith, l) in m)))
      | inr l ↦ l
    ]

-- over a greater denominator a value is greater
greater : (f : Fraction) (d m : ℕ) → 0 < f.den → d ≤ m → f.den ∣ d → f.den ∣ m → unsigned_abs (times_common f d) ≤ unsigned_abs (times_common f m)
greater f d m some l e k =
    let shares : d / f.den ≤ m / f.den = share-le (d / f.den) (m / f.den) f.den some (subst (λ (t : ℕ). t ≤ m / f.den * f.den) (sym (div-mul_cancel f.den e)) (subst (λ (t : ℕ). d ≤ t) (sym (div-mul_cancel f.den k)) l)) in
    omega (arith, unsigned_abs-mul f.num (pos (d / f.den)), unsigned_abs-mul f.num (pos (m / f.den)), mul-le-mul_left (unsigned_abs f.num) shares)

pub sums-none : (r : Row) (values : List (ℕ × Fraction)) (d : ℕ) → IsLeastCommon (value_dens values r.terms) d → (All (λ t. unsigned_abs (times_common (value_of values t.attr) d) < 2 ^ 62) r.terms → ⊥) → HasGapRoom r values → ⊥
sums-none r values d least none (m, some, small, room) =
    let each = each-both _ _ r.terms (each-listed values d r.terms (recursion_from_All (λ x. x ∣ d) (value_dens values r.terms) least.common)) (recursion_from_All (λ t. HasRoomOver m (value_of values t.attr)) r.terms room) in
    let divides : d ∣ m = least.least m (listed-each values m r.terms (each-impl (λ t. HasRoomOver m (value_of values t.attr)) (λ t. (value_of values t.attr).den ∣ m) r.terms (λ t h. h.0) (recursion_from_All (λ t. HasRoomOver m (value_of values t.attr)) r.terms room))) in
    none (All-from_recursion (λ t. unsigned_abs (times_common (value_of values t.attr) d) < 2 ^ 62) r.terms
    (each-impl (λ t. ((value_of values t.attr).den ∣ d) × HasRoomOver m (value_of values t.attr)) (λ t. unsigned_abs (times_common (value_of values t.attr) d) < 2 ^ 62) r.terms
    (λ t h. omega (arith, h.1.1, greater (value_of values t.attr) d m (divisor-above (value_of values t.attr).den d least.above h.0) (le_of_dvd some divides) h.0 h.1.0)) each))

pub on_err : {T E : Type 0} (r : Result T E) (P : Type 0) → P → OnErr r P
on_err (Ok x) P h = tt
on_err (Err e) P h = h
