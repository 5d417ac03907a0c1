-- Where each row bounds one attribute, each quantity fits at each corner.
use Rattle.std.proofs.Common.{◌≡◌, ◌≢◌, ◌∙◌, ℕ, suc, ◌+◌, ◌*◌, ◌/◌, ◌<◌, ◌≤◌, Bool, true, false, cond, nat_eq, List, [], ◌∷◌, length, map, ℤ, pos, negsuc, ◌+ℤ◌, ◌-ℤ◌, ◌*ℤ◌, neg_ℤ, unsigned_abs, refl, sym, ap, ap₂, subst, arith, inl, inr, All, Contains, eq-eqb, ne_eqb, mul_comm}
use Rattle.std.specs.Int.{◌∣◌}
use Rattle.std.specs.List.{AllByRecursion as Each}
use Rattle.std.proofs.lemmas.Bool.{cases_eq}
use Rattle.std.proofs.lemmas.List.{length-append}
use Rattle.std.proofs.lemmas.List.Elements.{All-from_recursion, recursion_from_All}
use Rattle.std.proofs.lemmas.Nat.Gcd.{IsGcd-from_mod, IsGcd-from_zero, dvd_refl}
use Rattle.std.proofs.lemmas.Int.{unsigned_abs-mul}
use Rattle.std.proofs.Math.Nat.{mul-le-mul}
use lib.IntN.{*ℤ_comm}
use borrow.Author.Differences.{ints}
use Rattle.frac_core.specs.Fraction.{IsFitting, IsKept}
use Rattle.frac_core.proofs.Bools.{count-other as cond_other, count-same as cond_same}
use Rattle.frac_core.proofs.Integers.{add-mul_right, mul-zero_ℤ, mul_assoc_ℤ, zero-mul_ℤ}
use Rattle.frac_core.proofs.Lists.{length-mapped}
use Rattle.frac_core.proofs.Numbers.{divides-multiple, neg-times, one-times, size-sum, sub-mul_right, times-one}
use Rattle.problem_core.specs.declared.parts.Mark.{Mark}
use Rattle.problem_core.specs.declared.parts.Rel.{Rel}
use Rattle.problem_core.specs.declared.parts.Rel.TheVariants.{Eq, Le, Ge}
use Rattle.problem_core.specs.declared.parts.RowName.{RowName}
use Rattle.problem_core.specs.declared.parts.Side.{Side}
use Rattle.problem_core.specs.declared.parts.Side.TheVariants.{Under, Over}
use Rattle.problem_core.specs.declared.stops.Quantity.TheVariants.{Plain, Terms, Rows, Shifts}
use Rattle.problem_core.specs.declared.stops.What.TheVariants.{Attr, Mark as MarkOf, Level as LevelOf}
use Rattle.problem_core.specs.Certificates.{over_weight, under_weight, weight_at}
use Rattle.problem_core.specs.declared.parts.Term.{Term}
use Rattle.problem_core.specs.Layout.{HasStay, Line, Problem, coefficient, line_of_row, lines, product_of, stay_lines, sum_of, value_at}
use Rattle.problem_core.specs.Levels.{AreFitting, HasNoLevelWriting, IsLevelWriting, alone, cost_at, line_cost, scales}
use Rattle.problem_core.specs.Corners.{IsCorner, IsIn, Point, Solves, attr_column, column, marks_of, one_column, place, place_of}
use Rattle.problem_core.specs.Unfit.{HasNoWriting}
use Rattle.problem_core.proofs.Forms.{each-both, each-impl, sum-add, sum-cong}
use Rattle.problem_core.proofs.Lines.{length-stays}
use Rattle.corner_laws.specs.Laws.{AllFit}
use Rattle.corner_laws.proofs.CornerRays.{corner_has_rays}
use Rattle.corner_laws.proofs.Counting.{IsSmall, one_mark, over_next}
use Rattle.corner_laws.proofs.LevelCosts.LevelExists.{level_writing_exists}
use Rattle.corner_laws.proofs.LinePlaces.{lines_apart, sum-single}
use Rattle.corner_laws.proofs.MarkWritings.Fits.{one_factor, whole_is_kept}
use Rattle.corner_laws.proofs.PathEnds.Complete.{plain_alone}
use Rattle.corner_laws.proofs.Swaps.ColumnsStay.{each_marks}
use Rattle.corner_laws.proofs.WrittenValues.{contains_each, nothing_outside}
use Rattle.session_laws.specs.Answered.Bounds.{AreBounds}
use Rattle.session_laws.proofs.Answering.BoundLines.{HasLine, IsKnown, IsOutside, in-or-out, known-lines, line-alone, line-of}
use Rattle.session_laws.proofs.Answering.FirstFits.{IsUnit, minus, none, one, three, three-at, three-fits}

-- ---- numbers

pub small-kept : (z : ℤ) → unsigned_abs z < 4398046511104 → IsKept (record { num = z; den = 1 })
small-kept (pos n) h = whole_is_kept n h
small-kept (negsuc n) h = record {
  lowest = record { above = omega arith; coprime = IsGcd-from_mod (suc n) 1 1 (IsGcd-from_zero 1 _ (omega arith)) };
  fits = record { num_fits = h; den_fits = omega arith };
}

size-neg : (z : ℤ) → unsigned_abs (neg_ℤ z) ≡ unsigned_abs z
size-neg z = omega (arith, ints)

size-less : (x y : ℤ) → unsigned_abs (x -ℤ y) ≤ unsigned_abs x + unsigned_abs y
size-less x y = omega (arith, ints)

-- ---- attributes and marks

holds : (q v o c : ℤ) → q ≡ v +ℤ c *ℤ o → pos 1 *ℤ (pos 1 *ℤ q -ℤ v) ≡ pos 1 *ℤ (c *ℤ o)
holds q v o c e = omega (arith, ints, e)

-- an outside mark of the problem
abbrev pub IsOut : Problem → List Mark → ℕ → Type 0
IsOut p at c = Contains (map place (marks_of (lines p))) c × (IsIn c at → ⊥)

-- what is a sum of three outside marks and of a small number fits
pub written : (p : Problem) (at : List Mark) (quantity : (ℕ → ℤ) → ℤ) (a b d : ℕ) (i j k c : ℤ) → IsOut p at a → IsOut p at b → IsOut p at d → IsUnit i → IsUnit j → IsUnit k → unsigned_abs c < 4398046511104
    → ((x : Point) → Solves p x → quantity x.num ≡ value_at x.num (three a i b j d k) +ℤ c *ℤ x.num one_column) → HasNoWriting p at quantity → ⊥
written p at quantity a b d i j k c oa ob od ui uj uk uc sums unfit =
    unfit 1 (three a i b j d k) (record { num = c; den = 1 })
    (record {
      scale_positive = omega arith;
      den_positive = omega arith;
      outside = λ v some. elim (three-at a b d i j k v some) [
        | inl e ↦ subst (IsOut p at) (sym e) oa
        | inr more ↦ elim more [
          | inl e ↦ subst (IsOut p at) (sym e) ob
          | inr e ↦ subst (IsOut p at) (sym e) od
        ]
      ];
      holds = λ x solves. holds (quantity x.num) (value_at x.num (three a i b j d k)) (x.num one_column) c (sums x solves);
      lowest = λ n each whole. one_factor n whole.0 whole.1;
    })
    (omega arith) (three-fits a b d i j k ui uj uk) (small-kept c uc)

attr-is : (u o a n one : ℤ) → (u -ℤ o) +ℤ a ≡ n *ℤ one → a ≡ (pos 1 *ℤ o +ℤ (negsuc 0 *ℤ u +ℤ (pos 0 *ℤ u +ℤ pos 0))) +ℤ n *ℤ one
attr-is u o a n one e = omega (arith, ints, e)

-- the line's under mark, where the other line gives the attribute
under-is : (u o a n v w m one : ℤ) → (u -ℤ o) +ℤ a ≡ n *ℤ one → (v -ℤ w) +ℤ a ≡ m *ℤ one → (n -ℤ m) *ℤ one ≡ n *ℤ one -ℤ m *ℤ one
    → u ≡ (pos 1 *ℤ o +ℤ (pos 1 *ℤ v +ℤ (negsuc 0 *ℤ w +ℤ pos 0))) +ℤ (n -ℤ m) *ℤ one
under-is u o a n v w m one e f g = omega (arith, ints, e, f, g)

over-is : (u o a n v w m one : ℤ) → (u -ℤ o) +ℤ a ≡ n *ℤ one → (v -ℤ w) +ℤ a ≡ m *ℤ one → (m -ℤ n) *ℤ one ≡ m *ℤ one -ℤ n *ℤ one
    → o ≡ (pos 1 *ℤ u +ℤ (negsuc 0 *ℤ v +ℤ (pos 1 *ℤ w +ℤ pos 0))) +ℤ (m -ℤ n) *ℤ one
over-is u o a n v w m one e f g = omega (arith, ints, e, f, g)

module _ (p : Problem) (b : AreBounds p) (at : List Mark) (corner : IsCorner p at) where
  attr-written : (a : ℕ) → HasStay p.stays a → HasNoWriting p at (λ x. x (attr_column a)) → ⊥
  attr-written a stay unfit =
      let k : HasLine p at a = line-of p b at corner a stay in
      let out : IsOut p at (place_of k.line.name Under) = (k.known.under, k.outside.0) in
      written p at (λ x. x (attr_column a)) (place_of k.line.name Over) (place_of k.line.name Under) (place_of k.line.name Under) (pos 1) (negsuc 0) (pos 0) k.line.num (k.known.over, k.outside.1) out out one minus none (omega (arith, k.known.plain.small))
      (λ x solves. attr-is (x.num (place_of k.line.name Under)) (x.num (place_of k.line.name Over)) (x.num (attr_column a)) k.line.num (x.num one_column)
      (subst (λ (c : ℕ). (x.num (place_of k.line.name Under) -ℤ x.num (place_of k.line.name Over)) +ℤ x.num (attr_column c) ≡ k.line.num *ℤ x.num one_column) k.attr (k.known.says x.num solves))) unfit

  small-name : (l : Line) → IsKnown p l → IsSmall l.name
  small-name l known = let next = over_next l.name in omega (arith, known.places.over, next)

  difference : (n m one : ℤ) → (n -ℤ m) *ℤ one ≡ n *ℤ one -ℤ m *ℤ one
  difference n m one = sub-mul_right n m one

  difference-small : (n m : ℤ) → unsigned_abs n ≤ 65536 → unsigned_abs m ≤ 65536 → unsigned_abs (n -ℤ m) < 4398046511104
  difference-small n m h k = let s = size-less n m in omega (arith, s, h, k)

  under-written : (l : Line) → IsKnown p l → IsIn (place_of l.name Under) at → HasNoWriting p at (λ x. x (place_of l.name Under)) → ⊥
  under-written l known inside unfit =
      let k : HasLine p at known.plain.attr = line-of p b at corner known.plain.attr known.plain.stay in
      written p at (λ x. x (place_of l.name Under)) (place_of l.name Over) (place_of k.line.name Under) (place_of k.line.name Over) (pos 1) (pos 1) (negsuc 0) (l.num -ℤ k.line.num)
      (known.over, one_mark p at l.name (small-name l known) corner inside) (k.known.under, k.outside.0) (k.known.over, k.outside.1) one one minus (difference-small l.num k.line.num known.plain.small k.known.plain.small)
      (λ x solves. under-is (x.num (place_of l.name Under)) (x.num (place_of l.name Over)) (x.num (attr_column known.plain.attr)) l.num (x.num (place_of k.line.name Under)) (x.num (place_of k.line.name Over)) k.line.num (x.num one_column)
      (known.says x.num solves) (subst (λ (c : ℕ). (x.num (place_of k.line.name Under) -ℤ x.num (place_of k.line.name Over)) +ℤ x.num (attr_column c) ≡ k.line.num *ℤ x.num one_column) k.attr (k.known.says x.num solves)) (difference l.num k.line.num (x.num one_column))) unfit

  over-written : (l : Line) → IsKnown p l → IsIn (place_of l.name Over) at → HasNoWriting p at (λ x. x (place_of l.name Over)) → ⊥
  over-written l known inside unfit =
      let k : HasLine p at known.plain.attr = line-of p b at corner known.plain.attr known.plain.stay in
      written p at (λ x. x (place_of l.name Over)) (place_of l.name Under) (place_of k.line.name Under) (place_of k.line.name Over) (pos 1) (negsuc 0) (pos 1) (k.line.num -ℤ l.num)
      (known.under, (λ i. one_mark p at l.name (small-name l known) corner i inside)) (k.known.under, k.outside.0) (k.known.over, k.outside.1) one minus one (difference-small k.line.num l.num k.known.plain.small known.plain.small)
      (λ x solves. over-is (x.num (place_of l.name Under)) (x.num (place_of l.name Over)) (x.num (attr_column known.plain.attr)) l.num (x.num (place_of k.line.name Under)) (x.num (place_of k.line.name Over)) k.line.num (x.num one_column)
      (known.says x.num solves) (subst (λ (c : ℕ). (x.num (place_of k.line.name Under) -ℤ x.num (place_of k.line.name Over)) +ℤ x.num (attr_column c) ≡ k.line.num *ℤ x.num one_column) k.attr (k.known.says x.num solves)) (difference k.line.num l.num (x.num one_column))) unfit

  mark-written : (c : ℕ) → IsIn c at → HasNoWriting p at (λ x. x c) → ⊥
  mark-written c inside =
      contains_each (λ v. IsIn v at → HasNoWriting p at (λ x. x v) → ⊥) (marks_of (lines p)) c
      (each_marks (λ v. IsIn v at → HasNoWriting p at (λ x. x v) → ⊥) (lines p)
      (each-impl (IsKnown p) (λ l. IsIn (place_of l.name Under) at → HasNoWriting p at (λ x. x (place_of l.name Under)) → ⊥) (lines p) under-written (known-lines p b))
      (each-impl (IsKnown p) (λ l. IsIn (place_of l.name Over) at → HasNoWriting p at (λ x. x (place_of l.name Over)) → ⊥) (lines p) over-written (known-lines p b)))
      (contains_each (λ v. Contains (map place (marks_of (lines p))) v) at c (recursion_from_All (λ m. Contains (map place (marks_of (lines p))) (place m)) at corner.marks) inside) inside

-- ---- weights

weight-most : (l : Line) (k : ℕ) → l.weight ≤ 1000 → weight_at l k ≤ 1000
weight-most l k h = elim (nat_eq l.level k) as (λ t. cond t l.weight 0 ≤ 1000) [
  | true ↦ h
  | false ↦ omega arith
]

under-most : (rel : Rel) (w : ℕ) → w ≤ 1000 → under_weight rel w ≤ 1000
under-most Eq w h = h
under-most Ge w h = h
under-most Le w h = omega arith

over-most : (rel : Rel) (w : ℕ) → w ≤ 1000 → over_weight rel w ≤ 1000
over-most Eq w h = h
over-most Ge w h = omega arith
over-most Le w h = h

abbrev under-at : ℕ → Line → ℕ
under-at k l = under_weight l.rel (weight_at l k)

abbrev over-at : ℕ → Line → ℕ
over-at k l = over_weight l.rel (weight_at l k)

lines-count : (p : Problem) → AreBounds p → length (lines p) ≤ 8192
lines-count p b =
    let rows : length (map line_of_row p.rows) ≡ length p.rows = length-mapped line_of_row p.rows in
    let all : length (lines p) ≡ length p.rows + length p.stays = length-append (map line_of_row p.rows) (stay_lines 1001 p.stays) ∙ ap₂ ◌+◌ rows (length-stays 1001 p.stays) in
    let few = b.whole.row_count in
    let less = b.whole.stay_count in
    omega (arith, all, few, less)

-- ---- so many times a unit

-- the number is a whole multiple of the unit, by at most so much
abbrev pub IsMultiple : ℤ → ℤ → ℕ → Type 0
IsMultiple unit z most = (t : ℤ) × (z ≡ t *ℤ unit) × (unsigned_abs t ≤ most)

no-multiple : (unit z : ℤ) (most : ℕ) → z ≡ pos 0 → IsMultiple unit z most
no-multiple unit z most e = (pos 0, e ∙ sym (zero-mul_ℤ unit), omega arith)

sum-multiples : (unit : ℤ) (most : ℕ) (f : Line → ℤ) (ls : List Line) → Each (λ l. IsMultiple unit (f l) most) ls → IsMultiple unit (sum_of f ls) (most * length ls)
sum-multiples unit most f [] h = no-multiple unit (pos 0) (most * 0) refl
sum-multiples unit most f (l ∷ ls) h =
    let rest = sum-multiples unit most f ls h.1 in (
      h.0.0 +ℤ rest.0,
      ap₂ ◌+ℤ◌ h.0.1 rest.1 ∙ sym (add-mul_right h.0.0 rest.0 unit),
      (let s = size-sum h.0.0 rest.0 in let a = h.0.2 in let c = rest.2 in let m : most * suc (length ls) ≡ most + most * length ls = omega arith in omega (arith, s, a, c, m)),
    )

abbrev first-attr : List Term → ℕ
first-attr [] = 0
first-attr (t ∷ ts) = t.attr

own-coefficient : (a : ℕ) (form : List Term) → form ≡ record { attr = a; by = pos 1 } ∷ [] → coefficient a form ≡ pos 1
own-coefficient a form e = ap (coefficient a) e ∙ ap (λ (z : ℤ). z +ℤ pos 0) (cond_same a a (pos 1) refl)

other-coefficient : (a b : ℕ) (form : List Term) → form ≡ record { attr = a; by = pos 1 } ∷ [] → a ≢ b → coefficient b form ≡ pos 0
other-coefficient a b form e n = ap (coefficient b) e ∙ ap (λ (z : ℤ). z +ℤ pos 0) (cond_other a b (pos 1) n)

split-cond : (t : Bool) (z : ℤ) → z ≡ cond t z (pos 0) +ℤ cond t (pos 0) z
split-cond true z = omega (arith, ints)
split-cond false z = omega (arith, ints)

plain-column : (c : ℕ) (r s t : ℤ) → c ≡ 1 → pos c *ℤ r ≡ s -ℤ pos c *ℤ t → r ≡ s -ℤ t
plain-column c r s t e h =
    let a : pos c *ℤ r ≡ r = ap (λ (n : ℕ). pos n *ℤ r) e ∙ one-times r in
    let d : pos c *ℤ t ≡ t = ap (λ (n : ℕ). pos n *ℤ t) e ∙ one-times t in
    omega (arith, ints, a, d, h)

plain-over : (c : ℕ) (r s t : ℤ) → c ≡ 1 → pos c *ℤ r ≡ s +ℤ pos c *ℤ t → r ≡ s +ℤ t
plain-over c r s t e h =
    let a : pos c *ℤ r ≡ r = ap (λ (n : ℕ). pos n *ℤ r) e ∙ one-times r in
    let d : pos c *ℤ t ≡ t = ap (λ (n : ℕ). pos n *ℤ t) e ∙ one-times t in
    omega (arith, ints, a, d, h)

-- ---- a level's multipliers

-- what the line takes of the sum of the attribute of another line
abbrev part : (RowName → ℤ) → Line → Line → ℤ
part times l m = times m.name *ℤ coefficient (first-attr l.form) m.form

abbrev own-part : (RowName → ℤ) → Line → Line → ℤ
own-part times l m = cond (nat_eq (place_of m.name Under) (place_of l.name Under)) (part times l m) (pos 0)

abbrev rest-part : (RowName → ℤ) → Line → Line → ℤ
rest-part times l m = cond (nat_eq (place_of m.name Under) (place_of l.name Under)) (pos 0) (part times l m)

-- what a level's writing says of a line
record IsLeveled (p : Problem) (at : List Mark) (k scale : ℕ) (times : RowName → ℤ) (reduced : ℕ → ℤ) (l : Line) : Type 0 where
  known : IsKnown p l
  under : reduced (place_of l.name Under) ≡ pos (scale * under-at k l) -ℤ times l.name
  over : reduced (place_of l.name Over) ≡ pos (scale * over-at k l) +ℤ times l.name
  no_under : IsIn (place_of l.name Under) at → reduced (place_of l.name Under) ≡ pos 0
  no_over : IsIn (place_of l.name Over) at → reduced (place_of l.name Over) ≡ pos 0
  alone : sum_of (own-part times l) (lines p) ≡ own-part times l l

module _ (p : Problem) (b : AreBounds p) (at : List Mark) (corner : IsCorner p at) (k scale : ℕ) (times : RowName → ℤ) (reduced : ℕ → ℤ) (w : IsLevelWriting p at k scale times reduced) where
  abbrev Leveled : Line → Type 0
  Leveled l = IsLeveled p at k scale times reduced l

  leveled : Each Leveled (lines p)
  leveled =
      each-impl (λ l. IsKnown p l × ((pos l.scale *ℤ reduced (place_of l.name Under) ≡ pos (scale * under-at k l) -ℤ pos l.scale *ℤ times l.name) × ((pos l.scale *ℤ reduced (place_of l.name Over) ≡ pos (scale * over-at k l) +ℤ pos l.scale *ℤ times l.name)
      × ((IsIn (place_of l.name Under) at → reduced (place_of l.name Under) ≡ pos 0) × ((IsIn (place_of l.name Over) at → reduced (place_of l.name Over) ≡ pos 0) × (sum_of (own-part times l) (lines p) ≡ own-part times l l)))))) Leveled (lines p)
      (λ l h. record {
        known = h.0;
        under = plain-column l.scale (reduced (place_of l.name Under)) (pos (scale * under-at k l)) (times l.name) h.0.plain.scale h.1.0;
        over = plain-over l.scale (reduced (place_of l.name Over)) (pos (scale * over-at k l)) (times l.name) h.0.plain.scale h.1.1.0;
        no_under = h.1.1.1.0;
        no_over = h.1.1.1.1.0;
        alone = h.1.1.1.1.1;
      })
      (each-both (IsKnown p) _ (lines p) (known-lines p b)
      (each-both _ _ (lines p) (recursion_from_All (λ l. pos l.scale *ℤ reduced (place_of l.name Under) ≡ column (alone scale times) Under l k) (lines p) (w.columns Under))
      (each-both _ _ (lines p) (recursion_from_All (λ l. pos l.scale *ℤ reduced (place_of l.name Over) ≡ column (alone scale times) Over l k) (lines p) (w.columns Over))
      (each-both _ _ (lines p) (recursion_from_All (λ l. IsIn (place_of l.name Under) at → reduced (place_of l.name Under) ≡ pos 0) (lines p) (w.inside_zero Under))
      (each-both _ _ (lines p) (recursion_from_All (λ l. IsIn (place_of l.name Over) at → reduced (place_of l.name Over) ≡ pos 0) (lines p) (w.inside_zero Over))
      (sum-single (own-part times) (λ l m apart. ap (λ (t : Bool). cond t (part times l m) (pos 0)) (ne_eqb (place_of m.name Under) (place_of l.name Under) (λ e. apart.under_under (sym e)))) (lines p) (lines_apart p b.whole)))))))

  under-share : (l : Line) → Leveled l → IsIn (place_of l.name Under) at → IsMultiple (pos scale) (times l.name) 1000
  under-share l h i =
      let none = h.no_under i in let e = h.under in
      let is : times l.name ≡ pos (scale * under-at k l) = omega (arith, ints, none, e) in
      (pos (under-at k l), is ∙ ap pos (mul_comm scale (under-at k l)), under-most l.rel (weight_at l k) (weight-most l k h.known.plain.weight))

  over-share : (l : Line) → Leveled l → IsIn (place_of l.name Over) at → IsMultiple (pos scale) (times l.name) 1000
  over-share l h i =
      let none = h.no_over i in let e = h.over in
      let is : times l.name ≡ neg_ℤ (pos (scale * over-at k l)) = omega (arith, ints, none, e) in
      (neg_ℤ (pos (over-at k l)), is ∙ ap (λ (n : ℕ). neg_ℤ (pos n)) (mul_comm scale (over-at k l)) ∙ sym (neg-times (pos (over-at k l)) (pos scale)), (let s = size-neg (pos (over-at k l)) in let m = over-most l.rel (weight_at l k) (weight-most l k h.known.plain.weight) in omega (arith, s, m)))

  inside-share : (l : Line) → Leveled l → (IsOutside at l → ⊥) → IsMultiple (pos scale) (times l.name) 1000
  inside-share l h some = elim (in-or-out at (place_of l.name Under)) [
    | inl i ↦ under-share l h i
    | inr u ↦ elim (in-or-out at (place_of l.name Over)) [
      | inl i ↦ over-share l h i
      | inr o ↦ absurd (some (u, o))
    ]
  ]

  scaled-one : (z c : ℤ) (most : ℕ) → c ≡ pos 1 → IsMultiple (pos scale) z most → IsMultiple (pos scale) (z *ℤ c) most
  scaled-one z c most e h = (h.0, ap (λ (y : ℤ). z *ℤ y) e ∙ times-one z ∙ h.1, h.2)

  -- a line other than this outside one
  other-share : (l m : Line) → Leveled l → IsOutside at l → Leveled m → place_of l.name Under ≢ place_of m.name Under → IsMultiple (pos scale) (part times l m) 1000
  other-share l m hl out hm ne =
      let own : first-attr l.form ≡ hl.known.plain.attr = ap first-attr hl.known.plain.form in
      elim (cases_eq hm.known.plain.attr (first-attr l.form)) [
        | inr far ↦ no-multiple (pos scale) (part times l m) 1000 (ap (λ (z : ℤ). times m.name *ℤ z) (other-coefficient hm.known.plain.attr (first-attr l.form) m.form hm.known.plain.form far) ∙ mul-zero_ℤ (times m.name))
        | inl same ↦
            scaled-one (times m.name) (coefficient (first-attr l.form) m.form) 1000 (subst (λ (a : ℕ). coefficient a m.form ≡ pos 1) same (own-coefficient hm.known.plain.attr m.form hm.known.plain.form))
            (inside-share m hm (λ gone. line-alone p b at corner l m hl.known hm.known (sym own ∙ sym same) out gone ne))
      ]

  rest-share : (l m : Line) → Leveled l → IsOutside at l → Leveled m → IsMultiple (pos scale) (rest-part times l m) 1000
  rest-share l m hl out hm = elim (cases_eq (place_of m.name Under) (place_of l.name Under)) [
    | inl e ↦ no-multiple (pos scale) (rest-part times l m) 1000 (ap (λ (t : Bool). cond t (pos 0) (part times l m)) (eq-eqb (place_of m.name Under) (place_of l.name Under) e))
    | inr n ↦ subst (λ (t : Bool). IsMultiple (pos scale) (cond t (pos 0) (part times l m)) 1000) (sym (ne_eqb (place_of m.name Under) (place_of l.name Under) n)) (other-share l m hl out hm (λ e. n (sym e)))
  ]

  turned : (z s t u : ℤ) → s +ℤ t ≡ pos 0 → s ≡ z → t ≡ u → z ≡ neg_ℤ u
  turned z s t u e f g = omega (arith, ints, e, f, g)

  outside-share : (l : Line) → Leveled l → IsOutside at l → IsMultiple (pos scale) (times l.name) 8192000
  outside-share l h out =
      let rest = sum-multiples (pos scale) 1000 (rest-part times l) (lines p) (each-impl Leveled (λ m. IsMultiple (pos scale) (rest-part times l m) 1000) (lines p) (λ m hm. rest-share l m h out hm) leveled) in
      let sum : sum_of (own-part times l) (lines p) +ℤ sum_of (rest-part times l) (lines p) ≡ pos 0 =
      sym (sum-add (own-part times l) (rest-part times l) (lines p)) ∙ sym (sum-cong (part times l) (λ m. own-part times l m +ℤ rest-part times l m) (lines p) (λ m. split-cond (nat_eq (place_of m.name Under) (place_of l.name Under)) (part times l m))) ∙ w.cancel (first-attr l.form) in
      let here : own-part times l l ≡ times l.name =
      ap (λ (t : Bool). cond t (part times l l) (pos 0)) (eq-eqb (place_of l.name Under) (place_of l.name Under) refl)
      ∙ ap (λ (z : ℤ). times l.name *ℤ z) (subst (λ (a : ℕ). coefficient a l.form ≡ pos 1) (sym (ap first-attr h.known.plain.form)) (own-coefficient h.known.plain.attr l.form h.known.plain.form)) ∙ times-one (times l.name) in
      let is : times l.name ≡ neg_ℤ (rest.0 *ℤ pos scale) = turned (times l.name) (sum_of (own-part times l) (lines p)) (sum_of (rest-part times l) (lines p)) (rest.0 *ℤ pos scale) sum (h.alone ∙ here) rest.1 in
      (neg_ℤ rest.0, is ∙ sym (neg-times rest.0 (pos scale)), (let s = size-neg rest.0 in let m = rest.2 in let n = lines-count p b in omega (arith, s, m, n)))

  share-of : (l : Line) → Leveled l → IsMultiple (pos scale) (times l.name) 8192000
  share-of l h = elim (in-or-out at (place_of l.name Under)) [
    | inl i ↦ wider (under-share l h i)
    | inr u ↦ elim (in-or-out at (place_of l.name Over)) [
      | inl i ↦ wider (over-share l h i)
      | inr o ↦ outside-share l h (u, o)
    ]
  ]
    where
      wider : {z : ℤ} → IsMultiple (pos scale) z 1000 → IsMultiple (pos scale) z 8192000
      wider m = (m.0, m.1, (let s = m.2 in omega (arith, s)))

  -- the line's three numbers
  abbrev Shares : Line → Type 0
  Shares l = IsMultiple (pos scale) (times l.name) 8192000 × IsMultiple (pos scale) (reduced (place_of l.name Under)) 8193000 × IsMultiple (pos scale) (reduced (place_of l.name Over)) 8193000

  less-share : (n : ℕ) (r t : ℤ) → n ≤ 1000 → r ≡ pos (scale * n) -ℤ t → IsMultiple (pos scale) t 8192000 → IsMultiple (pos scale) r 8193000
  less-share n r t few e h = (
    pos n -ℤ h.0,
    e ∙ ap₂ (λ (y z : ℤ). y -ℤ z) (ap pos (mul_comm scale n)) h.1 ∙ sym (sub-mul_right (pos n) h.0 (pos scale)),
    (let s = size-less (pos n) h.0 in let m = h.2 in omega (arith, s, m, few)),
  )

  more-share : (n : ℕ) (r t : ℤ) → n ≤ 1000 → r ≡ pos (scale * n) +ℤ t → IsMultiple (pos scale) t 8192000 → IsMultiple (pos scale) r 8193000
  more-share n r t few e h = (
    pos n +ℤ h.0,
    e ∙ ap₂ ◌+ℤ◌ (ap pos (mul_comm scale n)) h.1 ∙ sym (add-mul_right (pos n) h.0 (pos scale)),
    (let s = size-sum (pos n) h.0 in let m = h.2 in omega (arith, s, m, few)),
  )

  shares : Each Shares (lines p)
  shares =
      each-impl Leveled Shares (lines p)
      (λ l h. (
        share-of l h,
        less-share (under-at k l) (reduced (place_of l.name Under)) (times l.name) (under-most l.rel (weight_at l k) (weight-most l k h.known.plain.weight)) h.under (share-of l h),
        more-share (over-at k l) (reduced (place_of l.name Over)) (times l.name) (over-most l.rel (weight_at l k) (weight-most l k h.known.plain.weight)) h.over (share-of l h),
      )) leveled

  divided : (z : ℤ) (most : ℕ) → IsMultiple (pos scale) z most → scale ∣ unsigned_abs z
  divided z most h = divides-multiple scale z h.0 (h.1 ∙ *ℤ_comm h.0 (pos scale))

  scale-one : scale ≡ 1
  scale-one = w.lowest scale (dvd_refl scale) (All-from_recursion (λ l. (scale ∣ unsigned_abs (times l.name)) × (scale ∣ unsigned_abs (reduced (place_of l.name Under))) × (scale ∣ unsigned_abs (reduced (place_of l.name Over)))) (lines p)
      (each-impl Shares (λ l. (scale ∣ unsigned_abs (times l.name)) × (scale ∣ unsigned_abs (reduced (place_of l.name Under))) × (scale ∣ unsigned_abs (reduced (place_of l.name Over)))) (lines p)
      (λ l h. (divided (times l.name) 8192000 h.0, divided (reduced (place_of l.name Under)) 8193000 h.1, divided (reduced (place_of l.name Over)) 8193000 h.2)) shares))

  fitting : (z : ℤ) (most : ℕ) → most ≤ 8193000 → IsMultiple (pos scale) z most → IsFitting z
  fitting z most few h =
      let is : z ≡ h.0 = h.1 ∙ ap (λ (n : ℕ). h.0 *ℤ pos n) scale-one ∙ times-one h.0 in
      let s : unsigned_abs z ≡ unsigned_abs h.0 = ap unsigned_abs is in
      let m = h.2 in omega (arith, s, m, few)

  level-fits : AreFitting p scale times reduced
  level-fits = record {
    scale_fits = (let e = scale-one in omega (arith, e));
    times_fit = All-from_recursion (λ l. IsFitting (times l.name)) (lines p) (each-impl Shares (λ l. IsFitting (times l.name)) (lines p) (λ l h. fitting (times l.name) 8192000 (omega arith) h.0) shares);
    reduced_fit = λ side. elim side as (λ (s : Side). All (λ l. IsFitting (reduced (place_of l.name s))) (lines p)) [
      | Under ↦ All-from_recursion (λ l. IsFitting (reduced (place_of l.name Under))) (lines p) (each-impl Shares (λ l. IsFitting (reduced (place_of l.name Under))) (lines p) (λ l h. fitting (reduced (place_of l.name Under)) 8193000 (omega arith) h.1) shares)
      | Over ↦ All-from_recursion (λ l. IsFitting (reduced (place_of l.name Over))) (lines p) (each-impl Shares (λ l. IsFitting (reduced (place_of l.name Over))) (lines p) (λ l h. fitting (reduced (place_of l.name Over)) 8193000 (omega arith) h.2) shares)
    ];
  }

-- ---- a level's cost

cost-parts : (v w : ℕ) (n m u o one : ℤ) → u ≡ n *ℤ one → o ≡ m *ℤ one → pos v *ℤ u +ℤ pos w *ℤ o ≡ (pos v *ℤ n +ℤ pos w *ℤ m) *ℤ one
cost-parts v w n m u o one e f =
    ap₂ (λ (y z : ℤ). pos v *ℤ y +ℤ pos w *ℤ z) e f ∙ ap₂ ◌+ℤ◌ (sym (mul_assoc_ℤ (pos v) n one)) (sym (mul_assoc_ℤ (pos w) m one)) ∙ sym (add-mul_right (pos v *ℤ n) (pos w *ℤ m) one)

product-most : (v : ℕ) (n : ℤ) → v ≤ 1000 → unsigned_abs n ≤ 131072 → unsigned_abs (pos v *ℤ n) ≤ 131072000
product-most v n h k =
    let e : unsigned_abs (pos v *ℤ n) ≡ v * unsigned_abs n = unsigned_abs-mul (pos v) n in
    let m : v * unsigned_abs n ≤ 1000 * 131072 = mul-le-mul h k in
    omega (arith, e, m)

all-ones : (ls : List Line) → Each (λ l. l.scale ≡ 1) ls → product_of (λ (l : Line). l.scale) ls ≡ 1
all-ones [] h = refl
all-ones (l ∷ ls) h = ap₂ ◌*◌ h.0 (all-ones ls h.1)

module _ (p : Problem) (b : AreBounds p) (at : List Mark) (corner : IsCorner p at) where
  abbrev unit : ℤ
  unit = corner.point.num one_column

  abbrev IsValued : ℕ → Type 0
  IsValued c = IsMultiple unit (corner.point.num c) 131072

  outside-zero : (c : ℕ) → Contains (map place (marks_of (lines p))) c → (IsIn c at → ⊥) → corner.point.num c ≡ pos 0
  outside-zero c mark out = nothing_outside p at corner.point c corner.stands mark out

  from-line : (n m : ℤ) → unsigned_abs n ≤ 65536 → unsigned_abs m ≤ 65536 → unsigned_abs (n -ℤ m) ≤ 131072
  from-line n m h k = let s = size-less n m in omega (arith, s, h, k)

  under-value : (u o a v w n m one : ℤ) → (u -ℤ o) +ℤ a ≡ n *ℤ one → (v -ℤ w) +ℤ a ≡ m *ℤ one → o ≡ pos 0 → v ≡ pos 0 → w ≡ pos 0 → (n -ℤ m) *ℤ one ≡ n *ℤ one -ℤ m *ℤ one → u ≡ (n -ℤ m) *ℤ one
  under-value u o a v w n m one e f eo ev ew g = omega (arith, ints, e, f, eo, ev, ew, g)

  over-value : (u o a v w n m one : ℤ) → (u -ℤ o) +ℤ a ≡ n *ℤ one → (v -ℤ w) +ℤ a ≡ m *ℤ one → u ≡ pos 0 → v ≡ pos 0 → w ≡ pos 0 → (m -ℤ n) *ℤ one ≡ m *ℤ one -ℤ n *ℤ one → o ≡ (m -ℤ n) *ℤ one
  over-value u o a v w n m one e f eu ev ew g = omega (arith, ints, e, f, eu, ev, ew, g)

  -- both marks of a line are whole numbers at the corner
  valued : (l : Line) → IsKnown p l → IsValued (place_of l.name Under) × IsValued (place_of l.name Over)
  valued l known =
      let k : HasLine p at known.plain.attr = line-of p b at corner known.plain.attr known.plain.stay in
      let own : (corner.point.num (place_of k.line.name Under) -ℤ corner.point.num (place_of k.line.name Over)) +ℤ corner.point.num (attr_column known.plain.attr) ≡ k.line.num *ℤ corner.point.num one_column =
      subst (λ (c : ℕ). (corner.point.num (place_of k.line.name Under) -ℤ corner.point.num (place_of k.line.name Over)) +ℤ corner.point.num (attr_column c) ≡ k.line.num *ℤ corner.point.num one_column) k.attr (k.known.says corner.point.num corner.stands.0) in
      let here = known.says corner.point.num corner.stands.0 in
      let v = outside-zero (place_of k.line.name Under) k.known.under k.outside.0 in
      let w = outside-zero (place_of k.line.name Over) k.known.over k.outside.1 in
      let small : IsSmall l.name = (let next = over_next l.name in omega (arith, known.places.over, next)) in
      elim (in-or-out at (place_of l.name Under)) [
        | inl i ↦
            let o = outside-zero (place_of l.name Over) known.over (one_mark p at l.name small corner i) in (
              (
                l.num -ℤ k.line.num,
                under-value (corner.point.num (place_of l.name Under)) (corner.point.num (place_of l.name Over)) (corner.point.num (attr_column known.plain.attr)) (corner.point.num (place_of k.line.name Under)) (corner.point.num (place_of k.line.name Over)) l.num k.line.num (corner.point.num one_column) here own o v w (sub-mul_right l.num k.line.num (corner.point.num one_column)),
                from-line l.num k.line.num known.plain.small k.known.plain.small,
              ),
              no-multiple (corner.point.num one_column) (corner.point.num (place_of l.name Over)) 131072 o,
            )
        | inr u ↦
            let none = outside-zero (place_of l.name Under) known.under u in (
              no-multiple (corner.point.num one_column) (corner.point.num (place_of l.name Under)) 131072 none,
              elim (in-or-out at (place_of l.name Over)) [
                | inl i ↦ (
                  k.line.num -ℤ l.num,
                  over-value (corner.point.num (place_of l.name Under)) (corner.point.num (place_of l.name Over)) (corner.point.num (attr_column known.plain.attr)) (corner.point.num (place_of k.line.name Under)) (corner.point.num (place_of k.line.name Over)) l.num k.line.num (corner.point.num one_column) here own none v w (sub-mul_right k.line.num l.num (corner.point.num one_column)),
                  from-line k.line.num l.num k.known.plain.small known.plain.small,
                )
                | inr o ↦ no-multiple (corner.point.num one_column) (corner.point.num (place_of l.name Over)) 131072 (outside-zero (place_of l.name Over) known.over o)
              ],
            )
      ]

  scales-one : scales p ≡ 1
  scales-one = all-ones (lines p) (each-impl (IsKnown p) (λ l. l.scale ≡ 1) (lines p) (λ l h. h.plain.scale) (known-lines p b))

  whole-share : (s c : ℕ) (z : ℤ) → s ≡ 1 → c ≡ 1 → pos (s / c) *ℤ z ≡ z
  whole-share s c z e f = ap₂ (λ (m n : ℕ). pos (m / n) *ℤ z) e f ∙ one-times z

  line-costs : (k : ℕ) → Each (λ l. IsMultiple (corner.point.num one_column) (pos (scales p / l.scale) *ℤ line_cost k corner.point.num l) 262144000) (lines p)
  line-costs k =
      each-impl (IsKnown p) (λ l. IsMultiple (corner.point.num one_column) (pos (scales p / l.scale) *ℤ line_cost k corner.point.num l) 262144000) (lines p)
      (λ l h.
      let v = valued l h in
      let few = weight-most l k h.plain.weight in
      let a = product-most (under-at k l) v.0.0 (under-most l.rel (weight_at l k) few) v.0.2 in
      let d = product-most (over-at k l) v.1.0 (over-most l.rel (weight_at l k) few) v.1.2 in (
        pos (under-at k l) *ℤ v.0.0 +ℤ pos (over-at k l) *ℤ v.1.0,
        whole-share (scales p) l.scale (line_cost k corner.point.num l) scales-one h.plain.scale ∙ cost-parts (under-at k l) (over-at k l) v.0.0 v.1.0 (corner.point.num (place_of l.name Under)) (corner.point.num (place_of l.name Over)) (corner.point.num one_column) v.0.1 v.1.1,
        (let s = size-sum (pos (under-at k l) *ℤ v.0.0) (pos (over-at k l) *ℤ v.1.0) in omega (arith, s, a, d)),
      ))
      (known-lines p b)

  cost-is : (n c one : ℤ) (s : ℕ) → s ≡ 1 → c ≡ n *ℤ one → c *ℤ pos 1 ≡ n *ℤ (pos s *ℤ one)
  cost-is n c one s e f = times-one c ∙ f ∙ ap (λ (z : ℤ). n *ℤ z) (sym (one-times one) ∙ ap (λ (t : ℕ). pos t *ℤ one) (sym e))

  level-written : (k : ℕ) → HasNoLevelWriting p at k → ⊥
  level-written k unfit =
      let w = level_writing_exists p at k b.whole corner (corner_has_rays p at b.whole corner) in
      let cost = sum-multiples (corner.point.num one_column) 262144000 (λ l. pos (scales p / l.scale) *ℤ line_cost k corner.point.num l) (lines p) (line-costs k) in
      unfit w.0 w.1 w.2 (record { num = cost.0; den = 1 }) w.3
      (corner.point, corner.stands, cost-is cost.0 (cost_at p k corner.point.num) (corner.point.num one_column) (scales p) scales-one cost.1)
      (level-fits p b at corner k w.0 w.1 w.2 w.3)
      (small-kept cost.0 (let m = cost.2 in let n = lines-count p b in omega (arith, m, n)))

-- ---- each quantity

pub bounds-fit : (p : Problem) → AreBounds p → AllFit p p.rows
bounds-fit p b at (Plain (Attr attr)) corner (has, unfit) = attr-written p b at corner attr has unfit
bounds-fit p b at (Plain (MarkOf m)) corner (i, unfit) = mark-written p b at corner (place m) i unfit
bounds-fit p b at (Plain (LevelOf level)) corner (k, is, unfit) = level-written p b at corner k unfit
bounds-fit p b at (Terms mark j) corner h = absurd (plain_alone p at (Terms mark j) h)
bounds-fit p b at (Rows level j) corner h = absurd (plain_alone p at (Rows level j) h)
bounds-fit p b at (Shifts what j) corner h = absurd (plain_alone p at (Shifts what j) h)
