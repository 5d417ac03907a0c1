-- Whether a level's cost fits where a row has left it.
use Rattle.std.proofs.Common.{◌≡◌, ◌≢◌, ℕ, ◌-◌, ◌*◌, ◌<◌, ◌≤◌, List, [], ◌∷◌, ap₂, subst, arith, ℤ, pos, ◌*ℤ◌, unsigned_abs, All, get_or}
use Rattle.std.specs.List.{AllByRecursion as Each}
use Rattle.std.proofs.lemmas.List.Elements.{All-from_recursion, recursion_from_All}
use Rattle.frac_core.specs.Fraction.{IsFitting}
use Rattle.row_core.specs.Rows.{Term, coefficient, IsKeptRow}
use Rattle.problem_core.specs.declared.parts.Mark.{Mark}
use Rattle.problem_core.specs.declared.parts.Side.{Side}
use Rattle.problem_core.specs.declared.parts.RowName.TheVariants.{Held}
use Rattle.problem_core.specs.Layout.{Line, Problem, Row, line_of_row, lines, stay_lines}
use Rattle.problem_core.specs.Corners.{IsIn, place_of}
use Rattle.problem_core.specs.Changes.Begins.{without_marks}
use Rattle.problem_core.proofs.Forms.{each-both, each-impl}
use Rattle.corner_lines.specs.LineEquations.{IsOutsideLine}
use Rattle.corner_laws.specs.LevelLaws.{small_number, small_scale}
use Rattle.corner_lines.specs.Levels.LevelRows.{inside_number, reduced_number}
use Rattle.corner_lines.proofs.Costs.LevelFits.{small_row_fits}
use Rattle.corner_writings.specs.declared.levels.fitting.Draft.{Draft}
use Rattle.corner_leaving.specs.declared.leaving.Leaver.{Leaver}
use Rattle.corner_table.specs.Tables.{Lists, line_slot, marks_at}
use Rattle.corner_writings.specs.Rows.{row_number}
use Rattle.corner_writings.specs.Fitting.{IsFittingLine}
use Rattle.corner_leaving.specs.Leaving.{AreLeftFitting, IsFittingLeft, IsUnfitLeft, marks_left, problem_left}
use Rattle.corner_joins.proofs.Costs.CostFits.{sides}
use Rattle.corner_writings.proofs.LevelFacts.FittingRows.{IsDraftThere, IsFitThere, IsSeen, fits-line, line-fits, number_fits, seen-lines, small-numbers, stays_above}
use Rattle.corner_leaving.proofs.Removals.LeavingRows.{IsLeavingRow, its_level, left_sound}
use Rattle.corner_leaving.proofs.Removals.LeftLists.{in_left, left_rows, outside_back, rows_left}
use Rattle.problem_core.proofs.RowNames.{held-same}
use Rattle.corner_lines.proofs.ProblemChanges.Dropped.{in-before as in_before, left-outside as outside_left}

-- the reduced costs of a row do, where it is another one of the level
abbrev pub FitsOther : Lists → Draft → List Term → ℕ → Row → Type 0
FitsOther t draft row id s = 1000 - s.rank ≡ draft.level → s.id ≢ id → IsFittingLine t draft row (line_slot t (Held s.id))

-- the draft as the code makes it
abbrev pub draft_left : Leaver → ℤ → Draft
draft_left x unit = record { level = x.level; unit = unit; pair = record { enter = x.line; side = x.side; leave = x.line }; rows = 0 }

there : (t : Lists) (r : Row) (x : Leaver) (unit : ℤ) (size own : ℕ) (row : List Term) → IsLeavingRow t r x → IsKeptRow row → unit ≡ pos size → coefficient x.level row ≡ pos own → IsDraftThere t (draft_left x unit) row (marks_at t) size own
there t r x unit size own row h kept e o = record {
  slots = h.kept.slots;
  whole = h.kept.whole;
  low = its_level t r x h;
  kept = kept;
  draft_at = record { unit_is = e; own_is = o; sides = sides t x.line x.side h.is.side_is };
}

-- of another row, at the marks that are left
fit-left : (at : List Mark) (id level unit own : ℕ) (y : ℤ) (l : Line) → l.name ≢ Held id → IsFitThere at level unit own y l → IsFitThere (without_marks (id ∷ []) at) level unit own y l
fit-left at id level unit own y l far h = record {
  own_fit = λ out side. h.own_fit (outside_back at id l.name far out) side;
  inside_fit = λ side inside i. h.inside_fit side inside (in_before id (place_of l.name inside) at i);
}

fit-back : (at : List Mark) (id level unit own : ℕ) (y : ℤ) (l : Line) → l.name ≢ Held id → IsFitThere (without_marks (id ∷ []) at) level unit own y l → IsFitThere at level unit own y l
fit-back at id level unit own y l far h = record {
  own_fit = λ out side. h.own_fit (outside_left at id l.name out) side;
  inside_fit = λ side inside i. h.inside_fit side inside (in_left id l.name inside at far i);
}

abbrev FitLeft : Lists → Leaver → List Term → ℕ → ℕ → Line → Type 0
FitLeft t x row size own l = l.level ≡ x.level → IsFitThere (marks_left t x) x.level size own (row_number t x.level row l.name) l

left-lines : (t : Lists) (r : Row) (x : Leaver) (unit : ℤ) (size own : ℕ) (row : List Term) → (h : IsLeavingRow t r x) → IsDraftThere t (draft_left x unit) row (marks_at t) size own → AreLeftFitting t (draft_left x unit) row x.id t.rows → Each (FitLeft t x row size own) (lines (problem_left t x))
left-lines t r x unit size own row h d fit =
    rows_left (FitLeft t x row size own) x.id t.rows (stay_lines 1001 t.stays)
    (each-impl (λ s. IsSeen t (draft_left x unit) (marks_at t) (line_of_row s) × (1000 - s.rank ≡ x.level → s.id ≢ x.id → IsFittingLine t (draft_left x unit) row (line_slot t (Held s.id)))) _ t.rows
    (λ s k other e. fit-left (marks_at t) x.id x.level size own (row_number t x.level row (Held s.id)) (line_of_row s) (λ f. other (held-same s.id x.id f))
    (line-fits t (draft_left x unit) row (marks_at t) size own (line_of_row s) d k.0 (k.1 e other) e))
    (each-both _ _ t.rows (seen-lines t (draft_left x unit) row (marks_at t) size own d) (recursion_from_All _ t.rows fit)))
    (each-impl (λ l. 1001 ≤ l.level) (FitLeft t x row size own) (stay_lines 1001 t.stays) (λ l above e. let low = its_level t r x h in absurd (omega (arith, low, above, e))) (stays_above 1001 t.stays (omega arith)))

pub fits_left : (t : Lists) (r : Row) (x : Leaver) (unit : ℤ) (row : List Term) → IsLeavingRow t r x → IsKeptRow row → IsFitting (coefficient x.level row *ℤ unit) → AreLeftFitting t (draft_left x unit) row x.id t.rows → IsFittingLeft t x unit row
fits_left t r x unit row h kept scale fit size own e o =
    let w : Problem = problem_left t x in
    let each = left-lines t r x unit size own row h (there t r x unit size own row h kept e o) fit in
    record {
      scale_fits = subst IsFitting (ap₂ ◌*ℤ◌ o e) scale;
      outside_fit = λ i l within out. number_fits t x.level row (get_or (lines w) i l).name kept;
      own_fit = All-from_recursion (λ l. l.level ≡ x.level → IsOutsideLine (marks_left t x) l.name → (side : Side) → IsFitting (reduced_number side x.level size own (row_number t x.level row l.name) l)) (lines w)
          (each-impl (FitLeft t x row size own) _ (lines w) (λ l f e out side. (f e).own_fit out side) each);
      inside_fit = All-from_recursion (λ l. l.level ≡ x.level → (side inside : Side) → IsIn (place_of l.name inside) (marks_left t x) → IsFitting (reduced_number side x.level size own (inside_number inside x.level size own l) l)) (lines w)
          (each-impl (FitLeft t x row size own) _ (lines w) (λ l f e side inside i. (f e).inside_fit side inside i) each);
    }

pub unfit_left : (t : Lists) (r : Row) (x : Leaver) (unit : ℤ) (row : List Term) → IsLeavingRow t r x → IsKeptRow row → (AreLeftFitting t (draft_left x unit) row x.id t.rows → ⊥) → IsUnfitLeft t x unit row
unfit_left t r x unit row h kept not size own e o fit =
    let d = there t r x unit size own row h kept e o in
    let w : Problem = problem_left t x in
    let all : All (FitLeft t x row size own) (lines w) = λ i l within e. record {
      own_fit = λ out side. fit.own_fit i l within e out side;
      inside_fit = λ side inside n. fit.inside_fit i l within e side inside n;
    } in
    let each = left_rows (FitLeft t x row size own) x.id t.rows (stay_lines 1001 t.stays) (recursion_from_All (FitLeft t x row size own) (lines w) all) in
    not (All-from_recursion (λ s. 1000 - s.rank ≡ x.level → s.id ≢ x.id → IsFittingLine t (draft_left x unit) row (line_slot t (Held s.id))) t.rows
    (each-impl (λ s. IsSeen t (draft_left x unit) (marks_at t) (line_of_row s) × (s.id ≢ x.id → FitLeft t x row size own (line_of_row s))) _ t.rows
    (λ s k level other. fits-line t (draft_left x unit) row (marks_at t) size own (line_of_row s) d k.0 level
    (λ e. fit-back (marks_at t) x.id x.level size own (row_number t x.level row (Held s.id)) (line_of_row s) (λ f. other (held-same s.id x.id f)) (k.1 other e)))
    (each-both _ _ t.rows (seen-lines t (draft_left x unit) row (marks_at t) size own d) each)))

pub small_left : (t : Lists) (r : Row) (x : Leaver) (unit : ℤ) (row : List Term) → IsLeavingRow t r x → IsKeptRow row → ((n : ℕ) → coefficient x.level row *ℤ unit ≡ pos n → n < small_scale)
    → All (λ e. unsigned_abs e.by < small_number) row → IsFittingLeft t x unit row
small_left t r x unit row h kept scale small size own e o =
    small_row_fits (problem_left t x) (marks_left t x) x.level size own (row_number t x.level row) (left_sound t r x h).0
    (scale (own * size) (ap₂ ◌*ℤ◌ o e))
    (λ i l within out. small-numbers t x.level row (get_or (lines (problem_left t x)) i l).name kept small)
