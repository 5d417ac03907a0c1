-- A row whose mark is inside is taken out: without it the other marks are a corner, and the equations stay.
use Rattle.std.proofs.Common.{◌≡◌, ◌≢◌, ◌∙◌, ℕ, zero, suc, ◌+◌, ◌<◌, ◌++◌, Bool, true, false, cond, nat_eq, List, [], ◌∷◌, filter, length, map, ℤ, pos, ◌+ℤ◌, ◌-ℤ◌, ◌*ℤ◌, neg_ℤ, ◌<ℤ◌, unsigned_abs, refl, sym, ap, ap₂, subst, arith, All, AllPairs, Contains, inl, inr, eq-eqb, ne_eqb}
use Rattle.std.specs.Int.{◌∣◌}
use Rattle.std.proofs.lemmas.Nat.Gcd.{dvd-zero}
use Rattle.std.specs.List.{AllByRecursion as Each}
use Rattle.std.proofs.lemmas.Bool.{cases_eq}
use Rattle.std.proofs.lemmas.List.Elements.{recursion_from_All, All-from_recursion}
use Rattle.std.proofs.lemmas.List.Kept.{AllPairs-cons}
use borrow.Author.Differences.{ints}
use Rattle.frac_core.proofs.Integers.{cancel_mul, mul-sub_left, mul-zero_ℤ, mul_assoc_ℤ, mul_left_comm_ℤ, mul_positive, zero-mul_ℤ, zero-add_ℤ}
use Rattle.problem_core.specs.declared.parts.Mark.{Mark}
use Rattle.problem_core.specs.declared.parts.RowName.{RowName}
use Rattle.problem_core.specs.declared.parts.RowName.TheVariants.{Held, Stay as StayOf}
use Rattle.problem_core.specs.declared.parts.Side.{Side}
use Rattle.problem_core.specs.declared.parts.Side.TheVariants.{Under, Over}
use Rattle.problem_core.specs.declared.parts.Stay.{Stay}
use Rattle.problem_core.specs.Changes.Begins.{is_one_of, is_row, without_marks}
use Rattle.problem_core.specs.Kept.{IsRow, IsWhole}
use Rattle.problem_core.specs.Layout.{Line, Problem, Row, line_of_row, line_of_stay, lines, stay_lines, sum_of, value_at}
use Rattle.problem_core.specs.Corners.{Agree, IsCorner, IsIn, Point, StandsAt, attr_column, equation, marks_of, one_column, place, place_of}
use Rattle.problem_core.specs.Rays.{HasRays}
use Rattle.problem_core.proofs.Forms.{each-both, each-impl, mul-sum, value-plus, value-scaled}
use Rattle.problem_core.proofs.Corners.Tableaus.{unit_at}
use Rattle.corner_laws.proofs.Swaps.ColumnsStay.{each_marks}
use Rattle.corner_laws.proofs.Counting.{IsSmall, bump, bump_one, bump_other, cancels, head_pairs, unit_value}
use Rattle.corner_laws.proofs.LinePlaces.{small-row as row-small}
use Rattle.corner_laws.proofs.WrittenValues.{contains_each, nothing_outside}
use Rattle.corner_laws.proofs.ZeroColumns.{here-in, bump-over as bump_over}
use Rattle.corner_laws.specs.Runs.{other_side}
use Rattle.corner_lines.specs.LineEquations.{IsLineEquation, IsOutsideLine, deviation}
use Rattle.corner_lines.specs.Removals.{without_row}
use Rattle.corner_lines.proofs.ProblemChanges.JoinedRows.{extended, extended-attr, extended-old, extended-one, extended-other, extended-own, extended-under}
use Rattle.corner_lines.proofs.Lines.LineWritings.{Named, inside-named, other-out}
use Rattle.corner_lines.proofs.Lines.MarkForms.{same-name}
use Rattle.problem_core.proofs.Corners.Conflicts.{sum-each}
use Rattle.problem_core.proofs.RowNames.{held-same, stay-not-held}
use Rattle.frac_core.proofs.Numbers.{plus-none as no-more, cancel-scale as without-unit}
use Rattle.problem_core.proofs.Marks.{later-in}
use Rattle.problem_core.proofs.Lines.{stays-far, name-cases as names}
use Rattle.frac_core.proofs.Lists.{pairs-rest as tail_pairs}

-- ---- the lines without the row

abbrev pub other_row : ℕ → Row → Bool
other_row id r = cond (nat_eq r.id id) false true

pub filter-on : (id : ℕ) (r : Row) (rows : List Row) → r.id ≡ id → filter (other_row id) (r ∷ rows) ≡ filter (other_row id) rows
filter-on id r rows e = ap (λ (b : Bool). cond (cond b false true) (r ∷ filter (other_row id) rows) (filter (other_row id) rows)) (eq-eqb r.id id e)

pub filter-off : (id : ℕ) (r : Row) (rows : List Row) → r.id ≢ id → filter (other_row id) (r ∷ rows) ≡ r ∷ filter (other_row id) rows
filter-off id r rows n = ap (λ (b : Bool). cond (cond b false true) (r ∷ filter (other_row id) rows) (filter (other_row id) rows)) (ne_eqb r.id id n)

-- what holds of each line holds of each that is left
pub lines-left : (P : Line → Type 0) (id : ℕ) (rows : List Row) (ls : List Line) → Each P (map line_of_row rows ++ ls) → Each P (map line_of_row (filter (other_row id) rows) ++ ls)
lines-left P id [] ls h = h
lines-left P id (r ∷ rows) ls h = elim (cases_eq r.id id) [
  | inl e ↦ subst (λ (rs : List Row). Each P (map line_of_row rs ++ ls)) (sym (filter-on id r rows e)) (lines-left P id rows ls h.1)
  | inr n ↦ subst (λ (rs : List Row). Each P (map line_of_row rs ++ ls)) (sym (filter-off id r rows n)) (h.0, lines-left P id rows ls h.1)
]

-- and back, where it holds of the row that has gone
lines-back : (P Q : Line → Type 0) (id : ℕ) (rows : List Row) (ls : List Line) → ((r : Row) → r.id ≢ id → P (line_of_row r) → Q (line_of_row r)) → Each (λ (r : Row). r.id ≡ id → Q (line_of_row r)) rows → (Each P ls → Each Q ls) → Each P (map line_of_row (filter (other_row id) rows) ++ ls) → Each Q (map line_of_row rows ++ ls)
lines-back P Q id [] ls off on rest h = rest h
lines-back P Q id (r ∷ rows) ls off on rest h = elim (cases_eq r.id id) [
  | inl e ↦ (on.0 e, lines-back P Q id rows ls off on.1 rest (subst (λ (rs : List Row). Each P (map line_of_row rs ++ ls)) (filter-on id r rows e) h))
  | inr n ↦ (let k : Each P (map line_of_row (r ∷ filter (other_row id) rows) ++ ls) = subst (λ (rs : List Row). Each P (map line_of_row rs ++ ls)) (filter-off id r rows n) h in (off r n k.0, lines-back P Q id rows ls off on.1 rest k.1))
]

sum-left : (F : RowName → ℤ) (id : ℕ) (rows : List Row) (ls : List Line) → F (Held id) ≡ pos 0 → sum_of (λ l. F l.name) (map line_of_row rows ++ ls) ≡ sum_of (λ l. F l.name) (map line_of_row (filter (other_row id) rows) ++ ls)
sum-left F id [] ls none = refl
sum-left F id (r ∷ rows) ls none = elim (cases_eq r.id id) [
  | inl e ↦ ap₂ ◌+ℤ◌ (ap (λ (n : ℕ). F (Held n)) e ∙ none) (sum-left F id rows ls none) ∙ zero-add_ℤ _ ∙ ap (λ (rs : List Row). sum_of (λ l. F l.name) (map line_of_row rs ++ ls)) (sym (filter-on id r rows e))
  | inr n ↦ ap (λ (z : ℤ). F (Held r.id) +ℤ z) (sum-left F id rows ls none) ∙ ap (λ (rs : List Row). sum_of (λ l. F l.name) (map line_of_row rs ++ ls)) (sym (filter-off id r rows n))
]

-- ---- the one row with this number

record IsTheRow (id : ℕ) (rows : List Row) (r : Row) : Type 0 where
  is : r.id ≡ id
  row : IsRow r
  only : Each (λ (s : Row). s.id ≡ id → s ≡ r) rows
  count : length (filter (other_row id) rows) + 1 ≡ length rows

none-later : (id : ℕ) (r : Row) (rows : List Row) → r.id ≡ id → Each (λ (s : Row). r.id < s.id) rows → Each (λ (s : Row). s.id ≢ id) rows
none-later id r rows e h = each-impl (λ (s : Row). r.id < s.id) (λ (s : Row). s.id ≢ id) rows (λ s lt q. absurd (omega (arith, e, lt, q))) h

all-kept : (id : ℕ) (rows : List Row) → Each (λ (s : Row). s.id ≢ id) rows → length (filter (other_row id) rows) ≡ length rows
all-kept id [] h = refl
all-kept id (r ∷ rows) h = ap (λ (rs : List Row). length rs) (filter-off id r rows h.0) ∙ ap suc (all-kept id rows h.1)

the-row : (id : ℕ) (rows : List Row) (stays : List Line) → Each IsRow rows → AllPairs (λ r s. r.id < s.id) rows → Named (Held id) (map line_of_row rows ++ stays) → Each (λ l. l.name ≢ Held id) stays → (r : Row) × IsTheRow id rows r
the-row id [] stays whole rising named far = absurd (nowhere stays named far)
  where
    nowhere : (ls : List Line) → Named (Held id) ls → Each (λ l. l.name ≢ Held id) ls → ⊥
    nowhere [] n h = n
    nowhere (l ∷ ls) (inl e) h = h.0 e
    nowhere (l ∷ ls) (inr n) h = nowhere ls n h.1
the-row id (r ∷ rows) stays whole rising named far =
    elim (cases_eq r.id id) [
      | inl e ↦
          let later = none-later id r rows e (recursion_from_All (λ (s : Row). r.id < s.id) rows (head_pairs (λ (r s : Row). r.id < s.id) r rows rising)) in (
            r,
            record {
              is = e;
              row = whole.0;
              only = ((λ q. refl), each-impl (λ (s : Row). s.id ≢ id) (λ (s : Row). s.id ≡ id → s ≡ r) rows (λ s n q. absurd (n q)) later);
              count = (let h : length (filter (other_row id) (r ∷ rows)) ≡ length rows = ap (λ (rs : List Row). length rs) (filter-on id r rows e) ∙ all-kept id rows later in omega (arith, h));
            },
          )
      | inr n ↦
          let t = the-row id rows stays whole.1 (tail_pairs (λ (r s : Row). r.id < s.id) r rows rising) (further named n) far in (
            t.0,
            record {
              is = t.1.is;
              row = t.1.row;
              only = ((λ q. absurd (n q)), t.1.only);
              count = (let h : length (filter (other_row id) (r ∷ rows)) ≡ suc (length (filter (other_row id) rows)) = ap (λ (rs : List Row). length rs) (filter-off id r rows n) in let k = t.1.count in omega (arith, h, k));
            },
          )
    ]
  where
    held-same : (a b : ℕ) → Held a ≡ Held b → a ≡ b
    held-same a b e = cc

    further : Named (Held id) (map line_of_row (r ∷ rows) ++ stays) → r.id ≢ id → Named (Held id) (map line_of_row rows ++ stays)
    further (inl e) n = absurd (n (held-same r.id id e))
    further (inr k) n = k

-- ---- a solution with the row, from one without it

-- the row's marks take its gap, and both grow by t
abbrev widened : Row → ℤ → (ℕ → ℤ) → ℕ → ℤ
widened r t y v = extended r y v +ℤ t *ℤ bump (Held r.id) v

name-small : (r : Row) → IsRow r → IsSmall (Held r.id)
name-small r h = omega (arith, h.number.1)

bump-none : (r : Row) (l : Line) → IsRow r → value_at (bump (Held r.id)) (equation l) ≡ pos 0
bump-none r l h =
    value-plus (unit_at (place_of (Held r.id) Under)) (unit_at (place_of (Held r.id) Over)) (equation l)
    ∙ ap₂ ◌+ℤ◌ (unit_value (place_of (Held r.id) Under) (equation l)) (unit_value (place_of (Held r.id) Over) (equation l)) ∙ cancels l (Held r.id) (name-small r h)

widened-value : (r : Row) (t : ℤ) (y : ℕ → ℤ) (l : Line) → IsRow r → value_at (widened r t y) (equation l) ≡ value_at (extended r y) (equation l)
widened-value r t y l h =
    value-plus (extended r y) (λ v. t *ℤ bump (Held r.id) v) (equation l) ∙ ap (λ (z : ℤ). value_at (extended r y) (equation l) +ℤ z) (value-scaled t (bump (Held r.id)) (equation l))
    ∙ no-more (value_at (extended r y) (equation l)) t (value_at (bump (Held r.id)) (equation l)) (bump-none r l h)

widened-solves : (p : Problem) (id : ℕ) (r : Row) (t : ℤ) (y : ℕ → ℤ) → IsTheRow id p.rows r → All (λ l. value_at y (equation l) ≡ pos 0) (lines (without_row id p)) → All (λ l. value_at (widened r t y) (equation l) ≡ pos 0) (lines p)
widened-solves p id r t y the h =
    All-from_recursion (λ l. value_at (widened r t y) (equation l) ≡ pos 0) (lines p)
    (lines-back (λ l. value_at y (equation l) ≡ pos 0) (λ l. value_at (widened r t y) (equation l) ≡ pos 0) id p.rows (stay_lines 1001 p.stays)
    (λ s n k. other (line_of_row s) (λ e. n (held-same s.id r.id e ∙ the.is)) k)
    (each-impl (λ (s : Row). s.id ≡ id → s ≡ r) (λ (s : Row). s.id ≡ id → value_at (widened r t y) (equation (line_of_row s)) ≡ pos 0) p.rows
    (λ s f e. subst (λ (q : Row). value_at (widened r t y) (equation (line_of_row q)) ≡ pos 0) (sym (f e)) (widened-value r t y (line_of_row r) the.row ∙ extended-own r y (row-small r the.row))) the.only)
    (λ k. stays 1001 p.stays k) (recursion_from_All (λ l. value_at y (equation l) ≡ pos 0) (lines (without_row id p)) h))
  where
    other : (l : Line) → l.name ≢ Held r.id → value_at y (equation l) ≡ pos 0 → value_at (widened r t y) (equation l) ≡ pos 0
    other l ne k = widened-value r t y l the.row ∙ extended-old r y l (row-small r the.row) ne ∙ ap (λ (z : ℤ). pos r.constant.den *ℤ z) k ∙ mul-zero_ℤ (pos r.constant.den)

    stays : (level : ℕ) (ss : List Stay) → Each (λ l. value_at y (equation l) ≡ pos 0) (stay_lines level ss) → Each (λ l. value_at (widened r t y) (equation l) ≡ pos 0) (stay_lines level ss)
    stays level [] k = tt
    stays level (s ∷ ss) k = (other (line_of_stay level s) (stay-not-held s.attr r.id) k.0, stays (level + 1) ss k.1)

widened-other : (r : Row) (t : ℤ) (y : ℕ → ℤ) (v : ℕ) → v ≢ place_of (Held r.id) Over → v ≢ place_of (Held r.id) Under → widened r t y v ≡ pos r.constant.den *ℤ y v
widened-other r t y v o u = no-more (extended r y v) t (bump (Held r.id) v) (bump_other (Held r.id) v u o) ∙ extended-other r y v o u

widened-one : (r : Row) (t : ℤ) (y : ℕ → ℤ) → IsRow r → widened r t y one_column ≡ pos r.constant.den *ℤ y one_column
widened-one r t y h = no-more (extended r y one_column) t (bump (Held r.id) one_column) (bump_one (Held r.id) (name-small r h)) ∙ extended-one r y (row-small r h)

unfoldable widened-point : (r : Row) → IsRow r → ℤ → Point → Point
widened-point r h t y = record { num = widened r t y.num; positive = subst (λ (z : ℤ). pos 0 <ℤ z) (sym (widened-one r t y.num h)) (mul_positive r.constant.den (y.num one_column) h.constant.lowest.above y.positive) }

-- ---- the marks without the row's

abbrev pub left_mark : ℕ → Mark → Bool
left_mark id m = cond (is_one_of (id ∷ []) m.row) false true

pub row-on : (id : ℕ) (name : RowName) → name ≡ Held id → is_row id name ≡ true
row-on id name e = ap (is_row id) e ∙ eq-eqb id id refl

pub row-off : (id : ℕ) (name : RowName) → name ≢ Held id → is_row id name ≡ false
row-off id (Held n) ne = ne_eqb n id (λ e. ne (ap Held e))
row-off id (StayOf a) ne = refl

marks-on : (id : ℕ) (m : Mark) (ms : List Mark) → m.row ≡ Held id → without_marks (id ∷ []) (m ∷ ms) ≡ without_marks (id ∷ []) ms
marks-on id m ms e = ap (λ (b : Bool). cond (cond (cond b true false) false true) (m ∷ without_marks (id ∷ []) ms) (without_marks (id ∷ []) ms)) (row-on id m.row e)

marks-off : (id : ℕ) (m : Mark) (ms : List Mark) → m.row ≢ Held id → without_marks (id ∷ []) (m ∷ ms) ≡ m ∷ without_marks (id ∷ []) ms
marks-off id m ms n = ap (λ (b : Bool). cond (cond (cond b true false) false true) (m ∷ without_marks (id ∷ []) ms) (without_marks (id ∷ []) ms)) (row-off id m.row n)

pub in-before : (id : ℕ) (c : ℕ) (ms : List Mark) → IsIn c (without_marks (id ∷ []) ms) → IsIn c ms
in-before id c [] i = i
in-before id c (m ∷ ms) i = elim (names m.row (Held id)) [
  | inl e ↦ later-in m ms c (in-before id c ms (subst (λ (xs : List Mark). IsIn c xs) (marks-on id m ms e) i))
  | inr n ↦ first (subst (λ (xs : List Mark). IsIn c xs) (marks-off id m ms n) i) (λ j. in-before id c ms j)
]
  where
    first : IsIn c (m ∷ without_marks (id ∷ []) ms) → (IsIn c (without_marks (id ∷ []) ms) → IsIn c ms) → IsIn c (m ∷ ms)
    first (zero, within, is) f = (0, omega arith, is)
    first (suc k, within, is) f = later-in m ms c (f (k, omega (arith, within), is))

in-left : (id : ℕ) (c : ℕ) (ms : List Mark) → ((side : Side) → c ≢ place_of (Held id) side) → IsIn c ms → IsIn c (without_marks (id ∷ []) ms)
in-left id c [] far i = i
in-left id c (m ∷ ms) far i = elim (names m.row (Held id)) [
  | inl e ↦ subst (λ (xs : List Mark). IsIn c xs) (sym (marks-on id m ms e)) (in-left id c ms far (past i e))
  | inr n ↦ subst (λ (xs : List Mark). IsIn c xs) (sym (marks-off id m ms n)) (first i (λ j. in-left id c ms far j))
]
  where
    past : IsIn c (m ∷ ms) → m.row ≡ Held id → IsIn c ms
    past (zero, within, is) e = absurd (far m.side (sym is ∙ ap (λ (k : RowName). place_of k m.side) e))
    past (suc k, within, is) e = (k, omega (arith, within), is)

    first : IsIn c (m ∷ ms) → (IsIn c ms → IsIn c (without_marks (id ∷ []) ms)) → IsIn c (m ∷ without_marks (id ∷ []) ms)
    first (zero, within, is) f = (0, omega arith, is)
    first (suc k, within, is) f = later-in m (without_marks (id ∷ []) ms) c (f (k, omega (arith, within), is))

each-left : (P : Mark → Type 0) (id : ℕ) (ms : List Mark) → Each P ms → Each P (without_marks (id ∷ []) ms)
each-left P id [] h = tt
each-left P id (m ∷ ms) h = elim (names m.row (Held id)) [
  | inl e ↦ subst (λ (xs : List Mark). Each P xs) (sym (marks-on id m ms e)) (each-left P id ms h.1)
  | inr n ↦ subst (λ (xs : List Mark). Each P xs) (sym (marks-off id m ms n)) (h.0, each-left P id ms h.1)
]

each-not : (id : ℕ) (ms : List Mark) → Each (λ m. m.row ≢ Held id) (without_marks (id ∷ []) ms)
each-not id [] = tt
each-not id (m ∷ ms) = elim (names m.row (Held id)) [
  | inl e ↦ subst (λ (xs : List Mark). Each (λ m. m.row ≢ Held id) xs) (sym (marks-on id m ms e)) (each-not id ms)
  | inr n ↦ subst (λ (xs : List Mark). Each (λ m. m.row ≢ Held id) xs) (sym (marks-off id m ms n)) (n, each-not id ms)
]

apart-left : (id : ℕ) (ms : List Mark) → AllPairs (λ m n. place m ≢ place n) ms → AllPairs (λ m n. place m ≢ place n) (without_marks (id ∷ []) ms)
apart-left id [] h = h
apart-left id (m ∷ ms) h = elim (names m.row (Held id)) [
  | inl e ↦ subst (λ (xs : List Mark). AllPairs (λ m n. place m ≢ place n) xs) (sym (marks-on id m ms e)) (apart-left id ms (tail_pairs (λ (m n : Mark). place m ≢ place n) m ms h))
  | inr n ↦ subst (λ (xs : List Mark). AllPairs (λ m n. place m ≢ place n) xs) (sym (marks-off id m ms n))
      (AllPairs-cons (λ (m n : Mark). place m ≢ place n) m (without_marks (id ∷ []) ms)
      (All-from_recursion (λ n. place m ≢ place n) (without_marks (id ∷ []) ms) (each-left (λ n. place m ≢ place n) id ms (recursion_from_All (λ n. place m ≢ place n) ms (head_pairs (λ (m n : Mark). place m ≢ place n) m ms h))))
      (apart-left id ms (tail_pairs (λ (m n : Mark). place m ≢ place n) m ms h)))
]

kept-all : (id : ℕ) (ms : List Mark) → Each (λ m. m.row ≢ Held id) ms → length (without_marks (id ∷ []) ms) ≡ length ms
kept-all id [] h = refl
kept-all id (m ∷ ms) h = ap (λ (xs : List Mark). length xs) (marks-off id m ms h.0) ∙ ap suc (kept-all id ms h.1)

-- one mark of the row is inside
one-gone : (id c : ℕ) (side : Side) (ms : List Mark) → c ≡ place_of (Held id) side → AllPairs (λ m n. place m ≢ place n) ms → IsIn c ms → Each (λ m. m.row ≡ Held id → place m ≡ c) ms → length (without_marks (id ∷ []) ms) + 1 ≡ length ms
one-gone id c side [] is apart (k, within, e) h = absurd (omega (arith, within))
one-gone id c side (m ∷ ms) is apart i h = elim (names m.row (Held id)) [
  | inl e ↦
      let far : Each (λ n. n.row ≢ Held id) ms =
      each-impl (λ n. (place m ≢ place n) × (n.row ≡ Held id → place n ≡ c)) _ ms (λ n k q. k.0 (h.0 e ∙ sym (k.1 q))) (each-both _ _ ms (recursion_from_All (λ n. place m ≢ place n) ms (head_pairs (λ (m n : Mark). place m ≢ place n) m ms apart)) h.1) in
      let k : length (without_marks (id ∷ []) (m ∷ ms)) ≡ length ms = ap (λ (xs : List Mark). length xs) (marks-on id m ms e) ∙ kept-all id ms far in
      omega (arith, k)
  | inr n ↦
      let k : length (without_marks (id ∷ []) (m ∷ ms)) ≡ suc (length (without_marks (id ∷ []) ms)) = ap (λ (xs : List Mark). length xs) (marks-off id m ms n) in
      let t = one-gone id c side ms is (tail_pairs (λ (m n : Mark). place m ≢ place n) m ms apart) (past i n) h.1 in
      omega (arith, k, t)
]
  where
    past : IsIn c (m ∷ ms) → m.row ≢ Held id → IsIn c ms
    past (zero, within, e) n = absurd (n (same-name m.row (Held id) m.side side (e ∙ is)))
    past (suc k, within, e) n = (k, omega (arith, within), e)

pub each-in : (at ms : List Mark) → ((c : ℕ) → IsIn c ms → IsIn c at) → Each (λ m. IsIn (place m) at) ms
each-in at [] f = tt
each-in at (m ∷ ms) f = (f (place m) (0, omega arith, refl), each-in at ms (λ c i. f c (later-in m ms c i)))

only-mark : (p : Problem) (at : List Mark) (id : ℕ) (side : Side) → IsWhole p → IsCorner p at → IsIn (place_of (Held id) side) at → Each (λ m. m.row ≡ Held id → place m ≡ place_of (Held id) side) at
only-mark p at id side whole corner inside =
    each-impl (λ m. IsIn (place m) at) _ at
    (λ m i e. by-sides m.side side (subst (λ (k : RowName). IsIn (place_of k m.side) at) e i) inside m.row e)
    (each-in at at (λ c i. i))
  where
    by-sides : (a b : Side) → IsIn (place_of (Held id) a) at → IsIn (place_of (Held id) b) at → (name : RowName) → name ≡ Held id → place_of name a ≡ place_of (Held id) b
    by-sides Under Under i j name e = ap (λ (k : RowName). place_of k Under) e
    by-sides Over Over i j name e = ap (λ (k : RowName). place_of k Over) e
    by-sides Under Over i j name e = absurd (other-out p at (Held id) Under whole corner i j)
    by-sides Over Under i j name e = absurd (other-out p at (Held id) Over whole corner i j)

-- ---- the marks of the problem without the row

mark-was : (p : Problem) (id c : ℕ) → Contains (map place (marks_of (lines (without_row id p)))) c → Contains (map place (marks_of (lines p))) c
mark-was p id c is =
    let here = lines-left (λ l. Contains (map place (marks_of (lines p))) (place_of l.name Under) × Contains (map place (marks_of (lines p))) (place_of l.name Over)) id p.rows (stay_lines 1001 p.stays) (here-in (lines p)) in
    contains_each (λ v. Contains (map place (marks_of (lines p))) v) (marks_of (lines (without_row id p))) c
    (each_marks (λ v. Contains (map place (marks_of (lines p))) v) (lines (without_row id p))
    (each-impl (λ l. Contains (map place (marks_of (lines p))) (place_of l.name Under) × Contains (map place (marks_of (lines p))) (place_of l.name Over)) _ (lines (without_row id p)) (λ l h. h.0) here)
    (each-impl (λ l. Contains (map place (marks_of (lines p))) (place_of l.name Under) × Contains (map place (marks_of (lines p))) (place_of l.name Over)) _ (lines (without_row id p)) (λ l h. h.1) here)) is

pub left-far : (p : Problem) (id : ℕ) → Each (λ l. l.name ≢ Held id) (lines (without_row id p))
left-far p id = rows p.rows
  where
    rows : (rs : List Row) → Each (λ l. l.name ≢ Held id) (map line_of_row (filter (other_row id) rs) ++ stay_lines 1001 p.stays)
    rows [] = stays-far id 1001 p.stays
    rows (r ∷ rs) = elim (cases_eq r.id id) [
      | inl e ↦ subst (λ (xs : List Row). Each (λ l. l.name ≢ Held id) (map line_of_row xs ++ stay_lines 1001 p.stays)) (sym (filter-on id r rs e)) (rows rs)
      | inr n ↦ subst (λ (xs : List Row). Each (λ l. l.name ≢ Held id) (map line_of_row xs ++ stay_lines 1001 p.stays)) (sym (filter-off id r rs n)) ((λ e. n (held-same r.id id e)), rows rs)
    ]

mark-far : (p : Problem) (id c : ℕ) (side : Side) → Contains (map place (marks_of (lines (without_row id p)))) c → c ≢ place_of (Held id) side
mark-far p id c side is =
    contains_each (λ v. v ≢ place_of (Held id) side) (marks_of (lines (without_row id p))) c
    (each_marks (λ v. v ≢ place_of (Held id) side) (lines (without_row id p))
    (each-impl (λ l. l.name ≢ Held id) _ (lines (without_row id p)) (λ l n e. n (same-name l.name (Held id) Under side e)) (left-far p id))
    (each-impl (λ l. l.name ≢ Held id) _ (lines (without_row id p)) (λ l n e. n (same-name l.name (Held id) Over side e)) (left-far p id))) is

-- each mark with the row is one without it, or the row's
each-was : (P : ℕ → Type 0) (p : Problem) (id : ℕ) → ((c : ℕ) → Contains (map place (marks_of (lines (without_row id p)))) c → P c) → ((side : Side) → P (place_of (Held id) side)) → Each (λ m. P (place m)) (marks_of (lines p))
each-was P p id old own =
    each_marks P (lines p)
    (lines-back (λ l. Contains (map place (marks_of (lines (without_row id p)))) (place_of l.name Under) × Contains (map place (marks_of (lines (without_row id p)))) (place_of l.name Over)) (λ l. P (place_of l.name Under)) id p.rows (stay_lines 1001 p.stays) (λ r n k. old (place_of (Held r.id) Under) k.0) (owns p.rows Under)
    (λ k. each-impl (λ l. Contains (map place (marks_of (lines (without_row id p)))) (place_of l.name Under) × Contains (map place (marks_of (lines (without_row id p)))) (place_of l.name Over)) (λ l. P (place_of l.name Under)) (stay_lines 1001 p.stays) (λ l h. old (place_of l.name Under) h.0) k) (here-in (lines (without_row id p))))
    (lines-back (λ l. Contains (map place (marks_of (lines (without_row id p)))) (place_of l.name Under) × Contains (map place (marks_of (lines (without_row id p)))) (place_of l.name Over)) (λ l. P (place_of l.name Over)) id p.rows (stay_lines 1001 p.stays) (λ r n k. old (place_of (Held r.id) Over) k.1) (owns p.rows Over)
    (λ k. each-impl (λ l. Contains (map place (marks_of (lines (without_row id p)))) (place_of l.name Under) × Contains (map place (marks_of (lines (without_row id p)))) (place_of l.name Over)) (λ l. P (place_of l.name Over)) (stay_lines 1001 p.stays) (λ l h. old (place_of l.name Over) h.1) k) (here-in (lines (without_row id p))))
  where
    owns : (rs : List Row) (side : Side) → Each (λ (r : Row). r.id ≡ id → P (place_of (Held r.id) side)) rs
    owns [] side = tt
    owns (r ∷ rs) side = ((λ e. subst (λ (n : ℕ). P (place_of (Held n) side)) (sym e) (own side)), owns rs side)

-- ---- the equations

pub left-outside : (at : List Mark) (id : ℕ) (name : RowName) → IsOutsideLine at name → IsOutsideLine (without_marks (id ∷ []) at) name
left-outside at id name out = record { under = λ i. out.under (in-before id (place_of name Under) at i); over = λ i. out.over (in-before id (place_of name Over) at i) }

pub same-deviation : (d : ℕ) (o u a b : ℤ) → a ≡ pos d *ℤ o → b ≡ pos d *ℤ u → a -ℤ b ≡ pos d *ℤ (o -ℤ u)
same-deviation d o u a b e f = ap₂ ◌-ℤ◌ e f ∙ sym (mul-sub_left (pos d) o u)

widened-deviation : (r : Row) (y : ℕ → ℤ) (name : RowName) → name ≢ Held r.id → deviation name (widened r (pos 0) y) ≡ pos r.constant.den *ℤ deviation name y
widened-deviation r y name ne =
    same-deviation r.constant.den (y (place_of name Over)) (y (place_of name Under)) (widened r (pos 0) y (place_of name Over)) (widened r (pos 0) y (place_of name Under))
    (widened-other r (pos 0) y (place_of name Over) (λ e. ne (same-name name (Held r.id) Over Over e)) (λ e. ne (same-name name (Held r.id) Over Under e)))
    (widened-other r (pos 0) y (place_of name Under) (λ e. ne (same-name name (Held r.id) Under Over e)) (λ e. ne (same-name name (Held r.id) Under Under e)))

-- a quantity in which the row's marks do not stand
abbrev pub IsWithout : ℕ → ((ℕ → ℤ) → ℤ) → Type 0
IsWithout id quantity = (r : Row) → IsRow r → r.id ≡ id → (y : ℕ → ℤ) → quantity (widened r (pos 0) y) ≡ pos r.constant.den *ℤ quantity y

pub attr_without : (id a : ℕ) → IsWithout id (λ x. x (attr_column a))
attr_without id a r h e y = no-more (extended r y (attr_column a)) (pos 0) (bump (Held r.id) (attr_column a)) (bump_other (Held r.id) (attr_column a) (λ q. absurd (let s = (row-small r h).under in omega (arith, s, q))) (λ q. absurd (let s = (row-small r h).over in omega (arith, s, q)))) ∙ extended-attr r y a (row-small r h)

pub deviation_without : (id : ℕ) (name : RowName) → name ≢ Held id → IsWithout id (deviation name)
deviation_without id name ne r h e y = widened-deviation r y name (λ q. ne (q ∙ ap Held e))

the-held : (p : Problem) (at : List Mark) (id : ℕ) (side : Side) → IsWhole p → IsCorner p at → IsIn (place_of (Held id) side) at → (r : Row) × IsTheRow id p.rows r
the-held p at id side whole corner inside = the-row id p.rows (stay_lines 1001 p.stays) (recursion_from_All IsRow p.rows whole.rows) whole.rising (inside-named p at (Held id) side corner inside) (stays-far id 1001 p.stays)

pub left_line : (p : Problem) (at : List Mark) (id : ℕ) (side : Side) (quantity : (ℕ → ℤ) → ℤ) (own : ℕ) (by : RowName → ℤ) (num : ℤ) (den : ℕ) → IsWhole p → IsCorner p at → IsIn (place_of (Held id) side) at → IsWithout id quantity → IsLineEquation p at quantity own by num den → by (Held id) ≡ pos 0 → IsLineEquation (without_row id p) (without_marks (id ∷ []) at) quantity own by num den
unfolding widened-point
left_line p at id side quantity own by num den whole corner inside apart e none =
    let t = the-held p at id side whole corner inside in
    let r : Row = t.0 in
    record {
      own_positive = e.own_positive;
      den_positive = e.den_positive;
      outside = All-from_recursion (λ l. by l.name ≢ pos 0 → IsOutsideLine (without_marks (id ∷ []) at) l.name) (lines (without_row id p))
          (each-impl (λ l. by l.name ≢ pos 0 → IsOutsideLine at l.name) _ (lines (without_row id p)) (λ l h some. left-outside at id l.name (h some))
          (lines-left (λ l. by l.name ≢ pos 0 → IsOutsideLine at l.name) id p.rows (stay_lines 1001 p.stays) (recursion_from_All (λ l. by l.name ≢ pos 0 → IsOutsideLine at l.name) (lines p) e.outside)));
      holds = λ y solves.
          let S : ℤ = sum_of (λ l. by l.name *ℤ deviation l.name y.num) (lines (without_row id p)) in
          let sum : sum_of (λ l. by l.name *ℤ deviation l.name (widened t.0 (pos 0) y.num)) (lines p) ≡ pos t.0.constant.den *ℤ S =
          sum-left (λ n. by n *ℤ deviation n (widened t.0 (pos 0) y.num)) id p.rows (stay_lines 1001 p.stays) (ap (λ (z : ℤ). z *ℤ deviation (Held id) (widened t.0 (pos 0) y.num)) none ∙ zero-mul_ℤ (deviation (Held id) (widened t.0 (pos 0) y.num)))
          ∙ sum-each (λ l. by l.name *ℤ deviation l.name (widened t.0 (pos 0) y.num)) (λ l. pos t.0.constant.den *ℤ (by l.name *ℤ deviation l.name y.num)) (lines (without_row id p))
          (each-impl (λ l. l.name ≢ Held id) _ (lines (without_row id p)) (λ l n. ap (λ (z : ℤ). by l.name *ℤ z) (widened-deviation t.0 y.num l.name (λ q. n (q ∙ ap Held t.1.is))) ∙ mul_left_comm_ℤ (by l.name) (pos t.0.constant.den) (deviation l.name y.num)) (left-far p id))
          ∙ mul-sum (pos t.0.constant.den) (λ l. by l.name *ℤ deviation l.name y.num) (lines (without_row id p)) in
          without-unit t.0.constant.den den own (quantity y.num) S num (y.num one_column) t.1.row.constant.lowest.above
          (ap₂ (λ (a b : ℤ). pos den *ℤ (pos own *ℤ a -ℤ b)) (sym (apart t.0 t.1.row t.1.is y.num)) (sym sum)
          ∙ e.holds (widened-point t.0 t.1.row (pos 0) y) (widened-solves p id t.0 (pos 0) y.num t.1 solves)
          ∙ ap (λ (z : ℤ). pos own *ℤ (num *ℤ z)) (widened-one t.0 (pos 0) y.num t.1.row));
      lowest = λ k d all. e.lowest k d
          (All-from_recursion (λ l. k ∣ unsigned_abs (by l.name)) (lines p)
          (lines-back (λ l. k ∣ unsigned_abs (by l.name)) (λ l. k ∣ unsigned_abs (by l.name)) id p.rows (stay_lines 1001 p.stays) (λ r n h. h) (own-divides k p.rows) (λ h. h) (recursion_from_All (λ l. k ∣ unsigned_abs (by l.name)) (lines (without_row id p)) all)));
    }
  where
    own-divides : (k : ℕ) (rs : List Row) → Each (λ (r : Row). r.id ≡ id → k ∣ unsigned_abs (by (Held r.id))) rs
    own-divides k [] = tt
    own-divides k (r ∷ rs) = ((λ q. subst (λ (z : ℤ). k ∣ unsigned_abs z) (sym (ap (λ (n : ℕ). by (Held n)) q ∙ none)) (dvd-zero k)), own-divides k rs)

-- ---- the corner

-- how far both marks grow, so that the outside one is at 0
abbrev grown : Row → Side → (ℕ → ℤ) → ℤ
grown r Under y = neg_ℤ (extended r y (place_of (Held r.id) Over))
grown r Over y = pos 0

other-zero : (r : Row) (side : Side) (y : ℕ → ℤ) → IsRow r → widened r (grown r side y) y (place_of (Held r.id) (other_side side)) ≡ pos 0
other-zero r Under y h = parts (extended r y (place_of (Held r.id) Over)) (bump (Held r.id) (place_of (Held r.id) Over)) (bump_over (Held r.id))
  where
    parts : (a b : ℤ) → b ≡ pos 1 → a +ℤ neg_ℤ a *ℤ b ≡ pos 0
    parts a b e = ap (λ (z : ℤ). a +ℤ neg_ℤ a *ℤ z) e ∙ (let o : a +ℤ neg_ℤ a *ℤ pos 1 ≡ pos 0 = omega (arith, ints) in o)
other-zero r Over y h = ap (λ (z : ℤ). z +ℤ pos 0 *ℤ bump (Held r.id) (place_of (Held r.id) Under)) (extended-under r y (row-small r h).sides) ∙ parts (bump (Held r.id) (place_of (Held r.id) Under))
  where
    parts : (b : ℤ) → pos 0 +ℤ pos 0 *ℤ b ≡ pos 0
    parts b = omega (arith, ints)

-- what stands without the row stands with it, where its inside mark takes its gap
stands-back : (p : Problem) (at : List Mark) (id : ℕ) (side : Side) (r : Row) (the : IsTheRow id p.rows r) (y : Point) → IsIn (place_of (Held id) side) at → StandsAt (without_row id p) (without_marks (id ∷ []) at) y → StandsAt p at (widened-point r the.row (grown r side y.num) y)
unfolding widened-point
stands-back p at id side r the y inside stands = (
  widened-solves p id r (grown r side y.num) y.num the stands.0,
  All-from_recursion (λ m. (IsIn (place m) at → ⊥) → widened r (grown r side y.num) y.num (place m) ≡ pos 0) (marks_of (lines p))
      (each-was (λ c. (IsIn c at → ⊥) → widened r (grown r side y.num) y.num c ≡ pos 0) p id
      (λ c is out. widened-other r (grown r side y.num) y.num c (λ e. mark-far p id c Over is (e ∙ ap (λ (n : ℕ). place_of (Held n) Over) the.is)) (λ e. mark-far p id c Under is (e ∙ ap (λ (n : ℕ). place_of (Held n) Under) the.is))
      ∙ ap (λ (z : ℤ). pos r.constant.den *ℤ z) (nothing_outside (without_row id p) (without_marks (id ∷ []) at) y c stands is (λ i. out (in-before id c at i))) ∙ mul-zero_ℤ (pos r.constant.den))
      (λ to out. subst (λ (n : ℕ). widened r (grown r side y.num) y.num (place_of (Held n) to) ≡ pos 0) the.is (own side to inside out (other-zero r side y.num the.row)))),
)
  where
    own : (a b : Side) → IsIn (place_of (Held id) a) at → (IsIn (place_of (Held id) b) at → ⊥) → widened r (grown r side y.num) y.num (place_of (Held r.id) (other_side a)) ≡ pos 0 → widened r (grown r side y.num) y.num (place_of (Held r.id) b) ≡ pos 0
    own Under Under i o h = absurd (o i)
    own Under Over i o h = h
    own Over Under i o h = h
    own Over Over i o h = absurd (o i)

pub still-stands : (p : Problem) (at : List Mark) (id : ℕ) (x : Point) → StandsAt p at x → StandsAt (without_row id p) (without_marks (id ∷ []) at) x
still-stands p at id x stands = (
  All-from_recursion (λ l. value_at x.num (equation l) ≡ pos 0) (lines (without_row id p)) (lines-left (λ l. value_at x.num (equation l) ≡ pos 0) id p.rows (stay_lines 1001 p.stays) (recursion_from_All (λ l. value_at x.num (equation l) ≡ pos 0) (lines p) stands.0)),
  All-from_recursion (λ m. (IsIn (place m) (without_marks (id ∷ []) at) → ⊥) → x.num (place m) ≡ pos 0) (marks_of (lines (without_row id p)))
      (each-impl (λ m. Contains (map place (marks_of (lines (without_row id p)))) (place m)) _ (marks_of (lines (without_row id p)))
      (λ m is out. nothing_outside p at x (place m) stands (mark-was p id (place m) is) (λ i. out (in-left id (place m) at (λ side. mark-far p id (place m) side is) i)))
      (each-in (marks_of (lines (without_row id p))) (marks_of (lines (without_row id p))) (λ c i. i))),
)

-- x*(d*b) = (d*y)*a: without d
pub agree-less : (d : ℕ) (x y a b u w : ℤ) → 0 < d → u ≡ pos d *ℤ y → w ≡ pos d *ℤ b → x *ℤ w ≡ u *ℤ a → x *ℤ b ≡ y *ℤ a
agree-less d x y a b u w above e f h =
    cancel_mul d (x *ℤ b) (y *ℤ a) above (mul_left_comm_ℤ (pos d) x b ∙ ap (λ (z : ℤ). x *ℤ z) (sym f) ∙ h ∙ ap (λ (z : ℤ). z *ℤ a) e ∙ mul_assoc_ℤ (pos d) y a)

pub left_corner : (p : Problem) (at : List Mark) (id : ℕ) (side : Side) → IsWhole p → IsCorner p at → IsIn (place_of (Held id) side) at → IsCorner (without_row id p) (without_marks (id ∷ []) at)
unfolding widened-point
left_corner p at id side whole corner inside =
    let t = the-held p at id side whole corner inside in
    let marks = recursion_from_All (λ m. Contains (map place (marks_of (lines p))) (place m)) at corner.marks in
    let count = one-gone id (place_of (Held id) side) side at refl corner.apart inside (only-mark p at id side whole corner inside) in
    let rows = t.1.count in
    let all = corner.count in
    record {
      count = (let e : length (without_marks (id ∷ []) at) ≡ length (without_row id p).rows = omega (arith, count, rows, all) in e);
      marks = All-from_recursion (λ m. Contains (map place (marks_of (lines (without_row id p)))) (place m)) (without_marks (id ∷ []) at)
          (each-impl (λ m. Contains (map place (marks_of (lines p))) (place m) × (m.row ≢ Held id)) _ (without_marks (id ∷ []) at)
          (λ m h. mark-left p id (place m) (λ to e. h.1 (same-name m.row (Held id) m.side to e)) h.0)
          (each-both _ _ (without_marks (id ∷ []) at) (each-left (λ m. Contains (map place (marks_of (lines p))) (place m)) id at marks) (each-not id at)));
      apart = apart-left id at corner.apart;
      point = corner.point;
      stands = still-stands p at id corner.point corner.stands;
      marks_fixed = λ y stands.
          All-from_recursion (λ m. Agree (place m) corner.point y) (marks_of (lines (without_row id p)))
          (each-impl (λ m. Contains (map place (marks_of (lines (without_row id p)))) (place m)) _ (marks_of (lines (without_row id p)))
          (λ m is. agree-less t.0.constant.den (corner.point.num (place m)) (y.num (place m)) (corner.point.num one_column) (y.num one_column) (widened t.0 (grown t.0 side y.num) y.num (place m)) (widened t.0 (grown t.0 side y.num) y.num one_column) t.1.row.constant.lowest.above
          (widened-other t.0 (grown t.0 side y.num) y.num (place m) (λ e. mark-far p id (place m) Over is (e ∙ ap (λ (n : ℕ). place_of (Held n) Over) t.1.is)) (λ e. mark-far p id (place m) Under is (e ∙ ap (λ (n : ℕ). place_of (Held n) Under) t.1.is)))
          (widened-one t.0 (grown t.0 side y.num) y.num t.1.row)
          (contains_each (λ c. Agree c corner.point (widened-point t.0 t.1.row (grown t.0 side y.num) y)) (marks_of (lines p)) (place m)
          (recursion_from_All (λ m. Agree (place m) corner.point (widened-point t.0 t.1.row (grown t.0 side y.num) y)) (marks_of (lines p)) (corner.marks_fixed (widened-point t.0 t.1.row (grown t.0 side y.num) y) (stands-back p at id side t.0 t.1 y inside stands))) (mark-was p id (place m) is)))
          (each-in (marks_of (lines (without_row id p))) (marks_of (lines (without_row id p))) (λ c i. i)));
      attrs_fixed = λ y stands.
          All-from_recursion (λ s. Agree (attr_column s.attr) corner.point y) p.stays
          (each-impl (λ s. Agree (attr_column s.attr) corner.point (widened-point t.0 t.1.row (grown t.0 side y.num) y)) _ p.stays
          (λ s h. agree-less t.0.constant.den (corner.point.num (attr_column s.attr)) (y.num (attr_column s.attr)) (corner.point.num one_column) (y.num one_column) (widened t.0 (grown t.0 side y.num) y.num (attr_column s.attr)) (widened t.0 (grown t.0 side y.num) y.num one_column) t.1.row.constant.lowest.above
          (widened-other t.0 (grown t.0 side y.num) y.num (attr_column s.attr) (λ e. absurd (let q = (row-small t.0 t.1.row).over in omega (arith, q, e))) (λ e. absurd (let q = (row-small t.0 t.1.row).under in omega (arith, q, e))))
          (widened-one t.0 (grown t.0 side y.num) y.num t.1.row) h)
          (recursion_from_All (λ s. Agree (attr_column s.attr) corner.point (widened-point t.0 t.1.row (grown t.0 side y.num) y)) p.stays (corner.attrs_fixed (widened-point t.0 t.1.row (grown t.0 side y.num) y) (stands-back p at id side t.0 t.1 y inside stands))));
    }
  where
    mark-left : (p : Problem) (id c : ℕ) → ((to : Side) → c ≢ place_of (Held id) to) → Contains (map place (marks_of (lines p))) c → Contains (map place (marks_of (lines (without_row id p)))) c
    mark-left p id c far is =
        contains_each (λ v. ((to : Side) → v ≢ place_of (Held id) to) → Contains (map place (marks_of (lines (without_row id p)))) v) (marks_of (lines p)) c
        (each-was (λ v. ((to : Side) → v ≢ place_of (Held id) to) → Contains (map place (marks_of (lines (without_row id p)))) v) p id (λ v k g. k) (λ to g. absurd (g to refl))) is far

pub left_rays : (p : Problem) (at : List Mark) (id : ℕ) → HasRays p at → HasRays (without_row id p) (without_marks (id ∷ []) at)
left_rays p at id rays c is out =
    let r = rays c (mark-was p id c is) (λ i. out (in-left id c at (λ side. mark-far p id c side is) i)) in (
      r.0,
      record {
        holds = All-from_recursion (λ l. value_at r.0 (equation l) ≡ pos 0) (lines (without_row id p)) (lines-left (λ l. value_at r.0 (equation l) ≡ pos 0) id p.rows (stay_lines 1001 p.stays) (recursion_from_All (λ l. value_at r.0 (equation l) ≡ pos 0) (lines p) r.1.holds));
        still = r.1.still;
        here = r.1.here;
        other = All-from_recursion (λ m. (IsIn (place m) (without_marks (id ∷ []) at) → ⊥) → place m ≢ c → r.0 (place m) ≡ pos 0) (marks_of (lines (without_row id p)))
            (each-impl (λ m. Contains (map place (marks_of (lines (without_row id p)))) (place m)) _ (marks_of (lines (without_row id p)))
            (λ m k gone ne. contains_each (λ v. (IsIn v at → ⊥) → v ≢ c → r.0 v ≡ pos 0) (marks_of (lines p)) (place m) (recursion_from_All (λ m. (IsIn (place m) at → ⊥) → place m ≢ c → r.0 (place m) ≡ pos 0) (marks_of (lines p)) r.1.other) (mark-was p id (place m) k)
            (λ i. gone (in-left id (place m) at (λ side. mark-far p id (place m) side k) i)) ne)
            (each-in (marks_of (lines (without_row id p))) (marks_of (lines (without_row id p))) (λ c i. i)));
      },
    )
