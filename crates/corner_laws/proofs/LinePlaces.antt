-- The columns of a whole problem's lines: all are different, and below those of attributes.
use Rattle.std.proofs.Common.{◌≡◌, ◌≢◌, ◌∙◌, ℕ, ◌+◌, ◌<◌, ◌++◌, List, [], ◌∷◌, map, sym, ap, ap₂, arith, ℤ, pos, ◌+ℤ◌, AllPairs}
use Rattle.std.specs.List.{AllByRecursion as Each}
use Rattle.std.proofs.lemmas.List.Elements.{recursion_from_All, All-from_recursion}
use Rattle.problem_core.specs.declared.parts.Side.TheVariants.{Under, Over}
use Rattle.problem_core.specs.declared.parts.Stay.{Stay}
use Rattle.problem_core.specs.Kept.{IsNumber, IsTerm, IsRow, IsStay, IsWhole}
use Rattle.problem_core.specs.declared.parts.Term.{Term}
use Rattle.problem_core.specs.Layout.{Problem, Row, Line, lines, line_of_row, line_of_stay, stay_lines, sum_of}
use Rattle.problem_core.specs.Corners.{place_of, attr_column, marks_of, place}
use Rattle.problem_core.proofs.Forms.{sum-zero, each-impl, each-both}
use Rattle.frac_core.proofs.Integers.{add-zero_ℤ, zero-add_ℤ}
use Rattle.frac_core.proofs.Lists.{pairs-rest, each-joined}
use Rattle.corner_laws.proofs.Counting.{head_pairs as pairs-first}
use Rattle.problem_core.specs.declared.parts.Side.{Side}
use Rattle.problem_core.specs.declared.parts.Mark.{Mark}
use Rattle.std.proofs.lemmas.List.Kept.{AllPairs-cons}

-- the columns of the lines' marks are below those of attributes
pub record IsSmallLine (l : Line) : Type 0 where
  pub under : place_of l.name Under < attr_column 0
  pub over : place_of l.name Over < attr_column 0
  pub sides : place_of l.name Under ≢ place_of l.name Over

-- two lines with different marks
pub record AreApart (k l : Line) : Type 0 where
  pub first : IsSmallLine k
  pub second : IsSmallLine l
  pub under_under : place_of k.name Under ≢ place_of l.name Under
  pub under_over : place_of k.name Under ≢ place_of l.name Over
  pub over_under : place_of k.name Over ≢ place_of l.name Under
  pub over_over : place_of k.name Over ≢ place_of l.name Over

abbrev pub AllApart : List Line → Type 0
AllApart [] = Unit {0}
AllApart (l ∷ ls) = Each (AreApart l) ls × AllApart ls

pub apart-sym : (k l : Line) → AreApart k l → AreApart l k
apart-sym k l a = record {
  first = a.second;
  second = a.first;
  under_under = λ e. a.under_under (sym e);
  under_over = λ e. a.over_under (sym e);
  over_under = λ e. a.under_over (sym e);
  over_over = λ e. a.over_over (sym e);
}

-- a row whose own number and attributes are within the limits
abbrev pub IsPlacedRow : Row → Type 0
IsPlacedRow r = IsNumber r.id × Each (λ (t : Term). IsNumber t.attr) r.terms

-- such rows by rising number, and stays of different attributes: what a problem keeps but for numbers that no
-- column depends on
pub record IsPlaced (p : Problem) : Type 0 where
  pub rows : Each IsPlacedRow p.rows
  pub stays : Each IsStay p.stays
  pub rising : AllPairs (λ r s. r.id < s.id) p.rows
  pub apart : AllPairs (λ s t. s.attr ≢ t.attr) p.stays

placed-row : (r : Row) → IsRow r → IsPlacedRow r
placed-row r h = (h.number, each-impl IsTerm (λ t. IsNumber t.attr) r.terms (λ t k. k.attr) (recursion_from_All IsTerm r.terms h.terms))

pub whole-placed : (p : Problem) → IsWhole p → IsPlaced p
whole-placed p whole = record {
  rows = each-impl IsRow IsPlacedRow p.rows placed-row (recursion_from_All IsRow p.rows whole.rows);
  stays = recursion_from_All IsStay p.stays whole.stays;
  rising = whole.rising;
  apart = whole.apart;
}

row-small : (r : Row) → IsPlacedRow r → IsSmallLine (line_of_row r)
row-small r h = record {
  under = omega (arith, h.0.1);
  over = omega (arith, h.0.1);
  sides = λ e. omega (arith, e);
}

pub small-row : (r : Row) → IsRow r → IsSmallLine (line_of_row r)
small-row r h = row-small r (placed-row r h)

small-stay : (level : ℕ) (s : Stay) → IsStay s → IsSmallLine (line_of_stay level s)
small-stay level s h = record {
  under = omega (arith, h.attr.1);
  over = omega (arith, h.attr.1);
  sides = λ e. omega (arith, e);
}

small-rows : (rows : List Row) → Each IsPlacedRow rows → Each IsSmallLine (map line_of_row rows)
small-rows [] h = tt
small-rows (r ∷ rows) h = (row-small r h.0, small-rows rows h.1)

small-stays : (level : ℕ) (stays : List Stay) → Each IsStay stays → Each IsSmallLine (stay_lines level stays)
small-stays level [] h = tt
small-stays level (s ∷ stays) h = (small-stay level s h.0, small-stays (level + 1) stays h.1)

pub placed_small : (p : Problem) → IsPlaced p → Each IsSmallLine (lines p)
placed_small p placed =
    each-joined IsSmallLine (map line_of_row p.rows) (stay_lines 1001 p.stays)
    (small-rows p.rows placed.rows)
    (small-stays 1001 p.stays placed.stays)

pub lines_small : (p : Problem) → IsWhole p → Each IsSmallLine (lines p)
lines_small p whole = placed_small p (whole-placed p whole)

row-row : (r s : Row) → IsPlacedRow r → IsPlacedRow s → r.id < s.id → AreApart (line_of_row r) (line_of_row s)
row-row r s h k lt = record {
  first = row-small r h;
  second = row-small s k;
  under_under = λ e. omega (arith, e, lt);
  under_over = λ e. omega (arith, e, lt);
  over_under = λ e. omega (arith, e, lt);
  over_over = λ e. omega (arith, e, lt);
}

row-stay : (level : ℕ) (r : Row) (s : Stay) → IsPlacedRow r → IsStay s → AreApart (line_of_row r) (line_of_stay level s)
row-stay level r s h k = record {
  first = row-small r h;
  second = small-stay level s k;
  under_under = λ e. omega (arith, e);
  under_over = λ e. omega (arith, e);
  over_under = λ e. omega (arith, e);
  over_over = λ e. omega (arith, e);
}

stay-stay : (n m : ℕ) (s t : Stay) → IsStay s → IsStay t → s.attr ≢ t.attr → AreApart (line_of_stay n s) (line_of_stay m t)
stay-stay n m s t h k ne = record {
  first = small-stay n s h;
  second = small-stay m t k;
  under_under = λ e. ne (omega (arith, e));
  under_over = λ e. omega (arith, e);
  over_under = λ e. omega (arith, e);
  over_over = λ e. ne (omega (arith, e));
}

-- a row and the later ones
row-rows : (r : Row) (rows : List Row) → IsPlacedRow r → Each IsPlacedRow rows → Each (λ s. r.id < s.id) rows → Each (AreApart (line_of_row r)) (map line_of_row rows)
row-rows r [] h k lt = tt
row-rows r (s ∷ rows) h k lt = (row-row r s h k.0 lt.0, row-rows r rows h k.1 lt.1)

row-stays : (level : ℕ) (r : Row) (stays : List Stay) → IsPlacedRow r → Each IsStay stays → Each (AreApart (line_of_row r)) (stay_lines level stays)
row-stays level r [] h k = tt
row-stays level r (s ∷ stays) h k = (row-stay level r s h k.0, row-stays (level + 1) r stays h k.1)

stay-stays : (n level : ℕ) (s : Stay) (stays : List Stay) → IsStay s → Each IsStay stays → Each (λ t. s.attr ≢ t.attr) stays → Each (AreApart (line_of_stay n s)) (stay_lines level stays)
stay-stays n level s [] h k ne = tt
stay-stays n level s (t ∷ stays) h k ne = (stay-stay n level s t h k.0 ne.0, stay-stays n (level + 1) s stays h k.1 ne.1)

stays-apart : (level : ℕ) (stays : List Stay) → Each IsStay stays → AllPairs (λ s t. s.attr ≢ t.attr) stays → AllApart (stay_lines level stays)
stays-apart level [] h k = tt
stays-apart level (s ∷ stays) h k = (
  stay-stays level (level + 1) s stays h.0 h.1 (recursion_from_All (λ t. s.attr ≢ t.attr) stays (pairs-first (λ s t. s.attr ≢ t.attr) s stays k)),
  stays-apart (level + 1) stays h.1 (pairs-rest (λ s t. s.attr ≢ t.attr) s stays k),
)

rows-apart : (rows : List Row) (level : ℕ) (stays : List Stay) → Each IsPlacedRow rows → Each IsStay stays → AllPairs (λ r s. r.id < s.id) rows → AllApart (stay_lines level stays) → AllApart (map line_of_row rows ++ stay_lines level stays)
rows-apart [] level stays h k lt a = a
rows-apart (r ∷ rows) level stays h k lt a = (
  each-joined (AreApart (line_of_row r)) (map line_of_row rows) (stay_lines level stays)
      (row-rows r rows h.0 h.1 (recursion_from_All (λ s. r.id < s.id) rows (pairs-first (λ r s. r.id < s.id) r rows lt)))
      (row-stays level r stays h.0 k),
  rows-apart rows level stays h.1 k (pairs-rest (λ r s. r.id < s.id) r rows lt) a,
)

pub placed_apart : (p : Problem) → IsPlaced p → AllApart (lines p)
placed_apart p placed = rows-apart p.rows 1001 p.stays placed.rows placed.stays placed.rising (stays-apart 1001 p.stays placed.stays placed.apart)

pub lines_apart : (p : Problem) → IsWhole p → AllApart (lines p)
lines_apart p whole = placed_apart p (whole-placed p whole)

-- ---- the lines' attributes

row-attrs : (rows : List Row) → Each IsPlacedRow rows → Each (λ l. Each (λ e. e.attr < attr_column 0) l.form) (map line_of_row rows)
row-attrs [] h = tt
row-attrs (r ∷ rows) h = (
  each-impl (λ (t : Term). IsNumber t.attr) (λ e. e.attr < attr_column 0) r.terms (λ e k. omega (arith, k.1)) h.0.1,
  row-attrs rows h.1,
)

stay-attrs : (level : ℕ) (stays : List Stay) → Each IsStay stays → Each (λ l. Each (λ e. e.attr < attr_column 0) l.form) (stay_lines level stays)
stay-attrs level [] h = tt
stay-attrs level (s ∷ stays) h = ((omega (arith, h.0.attr.1), tt), stay-attrs (level + 1) stays h.1)

pub placed_attrs : (p : Problem) → IsPlaced p → Each (λ l. Each (λ e. e.attr < attr_column 0) l.form) (lines p)
placed_attrs p placed =
    each-joined (λ l. Each (λ e. e.attr < attr_column 0) l.form) (map line_of_row p.rows) (stay_lines 1001 p.stays)
    (row-attrs p.rows placed.rows)
    (stay-attrs 1001 p.stays placed.stays)

pub lines_attrs : (p : Problem) → IsWhole p → Each (λ l. Each (λ e. e.attr < attr_column 0) l.form) (lines p)
lines_attrs p whole = placed_attrs p (whole-placed p whole)

-- ---- sums over the lines

-- a sum in which only the line itself counts
pub sum-single : (g : Line → Line → ℤ) → ((k l : Line) → AreApart k l → g k l ≡ pos 0) → (ls : List Line) → AllApart ls → Each (λ k. sum_of (g k) ls ≡ g k k) ls
sum-single g z [] a = tt
sum-single g z (x ∷ ls) a = (
  ap (λ (t : ℤ). g x x +ℤ t) (sum-zero (g x) ls (each-impl (AreApart x) (λ l. g x l ≡ pos 0) ls (λ l h. z x l h) a.0)) ∙ add-zero_ℤ (g x x),
  each-impl (λ k. AreApart x k × (sum_of (g k) ls ≡ g k k)) (λ k. sum_of (g k) (x ∷ ls) ≡ g k k) ls
      (λ k h. ap₂ ◌+ℤ◌ (z k x (apart-sym x k h.0)) h.1 ∙ zero-add_ℤ (g k k))
      (each-both (AreApart x) (λ k. sum_of (g k) ls ≡ g k k) ls a.0 (sum-single g z ls a.1)),
)

-- ---- no mark comes twice

apart-line : (l : Line) (ls : List Line) (side : Side) → Each (AreApart l) ls → Each (λ n. place_of l.name side ≢ place n) (marks_of ls)
apart-line l [] side h = tt
apart-line l (k ∷ ls) Under h = (h.0.under_under, (h.0.under_over, apart-line l ls Under h.1))
apart-line l (k ∷ ls) Over h = (h.0.over_under, (h.0.over_over, apart-line l ls Over h.1))

apart-marks : (ls : List Line) → Each IsSmallLine ls → AllApart ls → AllPairs (λ m n. place m ≢ place n) (marks_of ls)
apart-marks [] small h = λ i j d less lt. absurd (omega (arith, less, lt))
apart-marks (l ∷ ls) small h =
    let under : Mark = record { row = l.name; side = Under } in
    let over : Mark = record { row = l.name; side = Over } in
    AllPairs-cons (λ (m n : Mark). place m ≢ place n) under (over ∷ marks_of ls)
    (All-from_recursion (λ (n : Mark). place under ≢ place n) (over ∷ marks_of ls) (small.0.sides, apart-line l ls Under h.0))
    (AllPairs-cons (λ (m n : Mark). place m ≢ place n) over (marks_of ls)
    (All-from_recursion (λ (n : Mark). place over ≢ place n) (marks_of ls) (apart-line l ls Over h.0))
    (apart-marks ls small.1 h.1))

pub marks-apart : (p : Problem) → IsWhole p → AllPairs (λ m n. place m ≢ place n) (marks_of (lines p))
marks-apart p whole = apart-marks (lines p) (lines_small p whole) (lines_apart p whole)
