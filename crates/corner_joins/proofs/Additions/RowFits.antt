-- What fits where a row joins fits while the rows after it are over.
use Rattle.std.proofs.Common.{◌≡◌, ◌∙◌, ℕ, ◌+◌, ◌<◌, ◌≤◌, ◌++◌, List, [], ◌∷◌, length, map, take, drop, sym, ap, subst, arith, inl, inr, Contains, ℤ, pos, slice_index_or}
use Rattle.std.specs.List.{AllByRecursion as Each}
use Rattle.std.proofs.lemmas.Bool.{cases_lt}
use Rattle.std.proofs.lemmas.List.{append-nil as append_none}
use Rattle.std.proofs.lemmas.List.Elements.{All-from_recursion, recursion_from_All}
use Rattle.problem_core.specs.declared.parts.Mark.{Mark}
use Rattle.problem_core.specs.declared.parts.Side.TheVariants.{Under, Over}
use Rattle.problem_core.specs.declared.parts.Term.{Term}
use Rattle.problem_core.specs.Layout.{Line, Problem, Row, line_of_row, lines, stay_lines, value_at}
use Rattle.problem_core.specs.Kept.{IsWhole}
use Rattle.problem_core.specs.Changes.Begins.{BeginsWith}
use Rattle.problem_core.specs.Corners.{IsCorner, IsWritingOf, Point, SameMarks, Solves, equation, marks_of, place, place_of}
use Rattle.problem_core.specs.Unfit.{HasNoWriting, first_terms, over_mark}
use Rattle.problem_core.proofs.Forms.{each-impl}
use Rattle.corner_laws.specs.Lifts.{with_rows}
use Rattle.corner_laws.proofs.PathEnds.BeginsUnique.{begins_unique}
use Rattle.corner_laws.proofs.Swaps.ColumnsStay.{each_marks}
use Rattle.corner_laws.proofs.WrittenValues.{contains_each}
use Rattle.corner_laws.proofs.ZeroColumns.{here-in}
use Rattle.corner_lines.specs.Joins.{over_joined, with_row}
use Rattle.corner_lines.proofs.LevelRows.SameLevels.{unfit_writing}
use Rattle.corner_lines.proofs.ProblemChanges.JoinedRows.{fresh-mark, in-parts}
use Rattle.corner_table.specs.Tables.{Lists, marks_at, marks_over, problem_of}
use Rattle.corner_view.proofs.Facts.{append_more}
use Rattle.corner_joins.specs.Additions.SumFits.{DoFirstTermsFit, DoRowsFit, DoTermsFitAt}
use Rattle.corner_joins.proofs.Additions.RowStops.{IsBegun, IsStopped, all_problem, begun_begins, first_whole, over_same, stop_begun, stop_whole, then_rest, this_row}

-- ---- a writing in the problem of fewer rows is one in that of more

each-past : (P : Line → Type 0) (more : List Row) (ls : List Line) → Each P (map line_of_row more ++ ls) → Each P ls
each-past P [] ls h = h
each-past P (r ∷ more) ls h = each-past P more ls h.1

each-before : (P : Line → Type 0) (rows more : List Row) (ls : List Line) → Each P (map line_of_row (rows ++ more) ++ ls) → Each P (map line_of_row rows ++ ls)
each-before P [] more ls h = each-past P more ls h
each-before P (r ∷ rows) more ls h = (h.0, each-before P rows more ls h.1)

solves-before : (p : Problem) (r : Row) (x : Point) → Solves (with_row r p) x → Solves p x
solves-before p r x h =
    All-from_recursion (λ l. value_at x.num (equation l) ≡ pos 0) (lines p)
    (each-before (λ l. value_at x.num (equation l) ≡ pos 0) p.rows (r ∷ []) (stay_lines 1001 p.stays) (recursion_from_All (λ l. value_at x.num (equation l) ≡ pos 0) (lines (with_row r p)) h))

abbrev HasMark : Problem → ℕ → Type 0
HasMark p c = Contains (map place (marks_of (lines p))) c

mark-after : (p : Problem) (r : Row) (v : ℕ) → HasMark p v → HasMark (with_row r p) v
mark-after p r v is =
    let here = each-before (λ l. HasMark (with_row r p) (place_of l.name Under) × HasMark (with_row r p) (place_of l.name Over)) p.rows (r ∷ []) (stay_lines 1001 p.stays) (here-in (lines (with_row r p))) in
    contains_each (λ c. HasMark (with_row r p) c) (marks_of (lines p)) v
    (each_marks (λ c. HasMark (with_row r p) c) (lines p)
    (each-impl (λ l. HasMark (with_row r p) (place_of l.name Under) × HasMark (with_row r p) (place_of l.name Over)) (λ l. HasMark (with_row r p) (place_of l.name Under)) (lines p) (λ l h. h.0) here)
    (each-impl (λ l. HasMark (with_row r p) (place_of l.name Under) × HasMark (with_row r p) (place_of l.name Over)) (λ l. HasMark (with_row r p) (place_of l.name Over)) (lines p) (λ l h. h.1) here)) is

writing-after : (p : Problem) (r : Row) (at : List Mark) (quantity : (ℕ → ℤ) → ℤ) (scale : ℕ) (form : List Term) (num : ℤ) (den : ℕ) → IsWhole (with_row r p) → IsWritingOf p at quantity scale form num den → IsWritingOf (with_row r p) (over_joined r at) quantity scale form num den
writing-after p r at quantity scale form num den whole w = record {
  scale_positive = w.scale_positive;
  den_positive = w.den_positive;
  outside = λ v some.
      let o = w.outside v some in (
        mark-after p r v o.0,
        λ i. elim (in-parts at (over_mark r.id) v i) [
          | inl j ↦ o.1 j
          | inr e ↦ fresh-mark p r v Over whole o.0 e
        ],
      );
  holds = λ x solves. w.holds x (solves-before p r x solves);
  lowest = w.lowest;
}

-- so where there is none that fits with more rows there is none with fewer
down-one : (p : Problem) (r : Row) (at : List Mark) (quantity : (ℕ → ℤ) → ℤ) → IsWhole (with_row r p) → HasNoWriting (with_row r p) (over_joined r at) quantity → HasNoWriting p at quantity
down-one p r at quantity whole none scale form value w a b kept = none scale form value (writing-after p r at quantity scale form value.num value.den whole w) a b kept

abbrev overs : List Row → List Mark
overs rows = map (λ r. over_mark r.id) rows

regrouped : (p : Problem) (r : Row) (rest : List Row) (at : List Mark) (quantity : (ℕ → ℤ) → ℤ) → HasNoWriting (with_rows (r ∷ rest) p) (at ++ overs (r ∷ rest)) quantity → HasNoWriting (with_rows rest (with_row r p)) (over_joined r at ++ overs rest) quantity
regrouped p r rest at quantity none =
    subst (λ (ms : List Mark). HasNoWriting (with_rows rest (with_row r p)) ms quantity) (sym (append_more at (over_mark r.id ∷ []) (overs rest)))
    (subst (λ (rows : List Row). HasNoWriting (record { rows = rows; stays = p.stays }) (at ++ overs (r ∷ rest)) quantity) (sym (append_more p.rows (r ∷ []) rest)) none)

down-all : (p : Problem) (rest : List Row) (at : List Mark) (quantity : (ℕ → ℤ) → ℤ) → IsWhole (with_rows rest p) → HasNoWriting (with_rows rest p) (at ++ overs rest) quantity → HasNoWriting p at quantity
down-all p [] at quantity whole none =
    subst (λ (ms : List Mark). HasNoWriting p ms quantity) (append_none at)
    (subst (λ (rows : List Row). HasNoWriting (record { rows = rows; stays = p.stays }) (at ++ []) quantity) (append_none p.rows) none)
down-all p (r ∷ rest) at quantity whole none =
    down-one p r at quantity (first_whole p r rest whole)
    (down-all (with_row r p) rest (over_joined r at) quantity (then_rest p.rows r rest p.stays whole) (regrouped p r rest at quantity none))

-- ---- the row that joins

terms-there : (t0 t : Lists) (rows more : List Row) (r : Row) (rest : List Row) → IsStopped t0 t rows more r rest → IsCorner (problem_of t0) (marks_at t0) → DoFirstTermsFit t r (length r.terms + 1)
    → (at : List Mark) → IsCorner (with_rows rows (problem_of t0)) at → BeginsWith (with_rows rows (problem_of t0)) (marks_at t0) more (r ∷ rest) at → (j : ℕ) → 1 ≤ j → j ≤ length r.terms + 1 → HasNoWriting (with_rows rows (problem_of t0)) at (first_terms r j) → ⊥
terms-there t0 t rows more r rest s before fits at corner begins j low high none =
    let p : Problem = with_rows rows (problem_of t0) in
    let q : Problem = with_rows (r ∷ rest) (problem_of t) in
    let over : List Mark = marks_over t (r ∷ rest) in
    let same : q ≡ p = all_problem t0 t rows more r rest s in
    let whole : IsWhole q = stop_whole t0 t rows more r rest s in
    let begun : IsBegun p (marks_at t0) more (r ∷ rest) over r.id = subst (λ (x : Problem). IsBegun x (marks_at t0) more (r ∷ rest) over r.id) same (stop_begun t0 t rows more r rest s) in
    let marks : SameMarks at over =
    begins_unique p t0.rows more (r ∷ rest) (marks_at t0) at over s.whole (ap (λ (xs : List Row). t0.rows ++ xs) (sym s.parts)) before corner begun.corner begins (begun_begins p (marks_at t0) more (r ∷ rest) over r.id begun) in
    let there : HasNoWriting q over (first_terms r j) = subst (λ (x : Problem). HasNoWriting x over (first_terms r j)) (sym same) (unfit_writing p at over (first_terms r j) marks none) in
    let apart : HasNoWriting q (marks_at t ++ overs (r ∷ rest)) (first_terms r j) = unfit_writing q over (marks_at t ++ overs (r ∷ rest)) (first_terms r j) (over_same t (r ∷ rest)) there in
    fits j low high
    (down-all (with_row r (problem_of t)) rest (over_joined r (marks_at t)) (first_terms r j) (then_rest t.rows r rest t.stays whole) (regrouped (problem_of t) r rest (marks_at t) (first_terms r j) apart))

-- ---- the loop

pub no_rows_fit : (t0 : Lists) (rows : List Row) → DoRowsFit t0 rows 0
no_rows_fit t0 rows k r less e = absurd (omega (arith, less))

first-is : (x y : Row) (xs ys : List Row) → x ∷ xs ≡ y ∷ ys → x ≡ y
first-is x y xs ys e = ap (λ (zs : List Row). slice_index_or zs 0 x) e

pub next_rows_fit : (t0 t : Lists) (rows : List Row) (i : ℕ) (r : Row) → IsStopped t0 t rows (take i rows) r (drop (i + 1) rows) → IsCorner (problem_of t0) (marks_at t0) → DoFirstTermsFit t r (length r.terms + 1) → i < length rows → r ≡ slice_index_or rows i r → DoRowsFit t0 rows i → DoRowsFit t0 rows (i + 1)
next_rows_fit t0 t rows i r s before fits lt at old k x less e = elim (cases_lt k i) [
  | inl lower ↦ old k x lower e
  | inr from ↦
      let same : k ≡ i = omega (arith, less, from) in
      (subst (λ (n : ℕ). drop n rows ≡ x ∷ drop (n + 1) rows → DoTermsFitAt t0 rows n x) (sym same)
      (λ here. subst (λ (y : Row). DoTermsFitAt t0 rows i y) (first-is r x (drop (i + 1) rows) (drop (i + 1) rows) (sym (this_row rows i r lt at) ∙ here)) (terms-there t0 t rows (take i rows) r (drop (i + 1) rows) s before fits)))
      e
]

pub all_rows_fit : (t0 : Lists) (rows : List Row) (i : ℕ) → length rows ≤ i → DoRowsFit t0 rows i → DoRowsFit t0 rows (length rows)
all_rows_fit t0 rows i le h k r less e = h k r (omega (arith, less, le)) e
