-- What a step that stops shows is accepted.
use Rattle.std.proofs.Common.{◌≡◌, ℕ, ◌++◌, Bool, true, false, List, [], ◌∷◌, take, refl, sym, subst, inl, inr}
use Rattle.problem_core.specs.declared.parts.Mark.{Mark}
use Rattle.problem_core.specs.declared.stops.Quantity.{Quantity}
use Rattle.problem_core.specs.declared.stops.Quantity.TheVariants.{Plain, Terms, Rows, Shifts}
use Rattle.problem_core.specs.Layout.{Problem, Row}
use Rattle.problem_core.specs.Kept.{IsWhole}
use Rattle.cert_core.specs.declared.stops.RunStop.TheVariants.{Conflict, OutOfMemory, Spent, Unfit}
use Rattle.cert_core.specs.Paths.{Path}
use Rattle.cert_core.specs.declared.stops.UnfitPath.{UnfitPath}
use Rattle.cert_core.specs.Stops.{IsStopOf, IsUnfitPath}
use Rattle.corner_laws.specs.Laws.{Anywhere}
use Rattle.corner_view.specs.Seen.{in_order}
use Rattle.layout_solver.specs.Begins.{FromStart}
use Rattle.layout_solver.specs.Removals.{FromRemoved, without, without_rows}
use Rattle.layout_solver.specs.declared.request.RequestStop.TheVariants as request
use Rattle.problem_reading.specs.ProblemForms.{IsSmall}
use Rattle.session_laws.specs.Shown.Steps.{IsAcceptedStop, LeavingStopsAreAccepted, StepStopsAreAccepted}
use Rattle.session_laws.proofs.Showing.Accepted.{conflicts-accepted}
use Rattle.session_laws.proofs.Showing.PathsAccepted.{spent-accepted, unfit-accepted}

-- the marks at which a path begins are in order
begins-ordered : (dual : Bool) (kept : List Mark) (joining : List Row) (p : Problem) (rest : List Row) (at : List Mark) → (dual ≡ true → kept ≡ in_order p kept) → FromStart dual kept joining p rest at → at ≡ in_order p at
begins-ordered true kept joining p rest at ordered (none, is) = subst (λ (ms : List Mark). ms ≡ in_order p ms) (sym is) (ordered refl)
begins-ordered false kept joining p rest at ordered (joined, parts, begins, order) = order

-- it begins somewhere
unfit-begins : (dual : Bool) (p : Problem) (old : List Row) (Begins : List Row → List Mark → Type 0) (path : Path) (q : Quantity) → IsUnfitPath dual p old Begins path q → (rest : List Row) × Begins rest path.corner
unfit-begins dual p old Begins path (Plain what) h = ([], h.0)
unfit-begins dual p old Begins path (Terms mark j) (primal, none, corner, (r, rest, begins, is, before), unfit) = (r ∷ rest, begins)
unfit-begins dual p old Begins path (Rows level j) h = ([], h.1)
unfit-begins dual p old Begins path (Shifts what j) h = ([], h.2)

unfit-anywhere : (dual : Bool) (p : Problem) (old : List Row) (Begins : List Row → List Mark → Type 0) (path : Path) (q : Quantity) → IsUnfitPath dual p old Begins path q → IsUnfitPath dual p old Anywhere path q
unfit-anywhere dual p old Begins path (Plain what) h = (tt, h.1, h.2)
unfit-anywhere dual p old Begins path (Terms mark j) (primal, none, corner, (r, rest, begins, is, before), unfit) = (primal, none, corner, (r, rest, tt, is, before), unfit)
unfit-anywhere dual p old Begins path (Rows level j) h = (h.0, tt, h.2, h.3)
unfit-anywhere dual p old Begins path (Shifts what j) h = (h.0, h.1, tt, h.3, h.4)

pub step-stops : StepStopsAreAccepted
step-stops s p budget (Conflict by) whole small each ordered h = λ kept. conflicts-accepted p by (record { whole = whole; small = small; kept = kept; shown = h })
step-stops s p budget (Unfit at) whole small each ordered (kind, few, h) =
    let begins = unfit-begins s.dual p s.before (FromStart s.dual s.kept s.joining p) at.path at.quantity h in
    unfit-accepted s.dual p s.before budget at
    (record {
      whole = whole;
      small = small;
      before = each;
      ordered = begins-ordered s.dual s.kept s.joining p begins.0 at.path.corner ordered begins.1;
      stops = (kind, few, unfit-anywhere s.dual p s.before (FromStart s.dual s.kept s.joining p) at.path at.quantity h);
    })
step-stops s p budget (Spent path) whole small each ordered (kind, h) =
    spent-accepted s.dual p s.before budget path
    (record {
      whole = whole;
      small = small;
      ordered = begins-ordered s.dual s.kept s.joining p [] path.corner ordered h.begins;
      stops = (kind, record { begins = tt; lawful = h.lawful; count = h.count; no_end = h.no_end });
    })
step-stops s p budget OutOfMemory whole small each ordered h = tt

-- ---- what leaves

left-ordered : (p : Problem) (kept : List Mark) (leaving gone : List ℕ) (q : Problem) (rest : List Row) (at : List Mark) → FromRemoved p kept leaving gone q rest at → at ≡ in_order q at
left-ordered p kept leaving gone q rest at (none, comes, order) = order

left-unfit : (p : Problem) (kept : List Mark) (leaving gone : List ℕ) (q : Problem) (budget : ℕ) (at : UnfitPath) → IsStopOf false q q.rows (FromRemoved p kept leaving gone q) budget (Unfit at) → IsWhole q → IsSmall q → IsAcceptedStop q.rows q (Unfit at)
left-unfit p kept leaving gone q budget at (kind, few, h) whole small =
    let begins = unfit-begins false q q.rows (FromRemoved p kept leaving gone q) at.path at.quantity h in
    unfit-accepted false q q.rows budget at
    (record {
      whole = whole;
      small = small;
      before = whole.rows;
      ordered = left-ordered p kept leaving gone q begins.0 at.path.corner begins.1;
      stops = (kind, few, unfit-anywhere false q q.rows (FromRemoved p kept leaving gone q) at.path at.quantity h);
    })

pub leaving-stops : LeavingStopsAreAccepted
leaving-stops p kept l budget (request.Unfit still at) (inl (some, held)) = (
  without_rows held.gone p,
  inl (held.gone, held.in_order, refl),
  left-unfit p kept (held.gone ++ take 1 still.items) held.gone (without_rows held.gone p) 0 at held.stop,
)
leaving-stops p kept l budget (request.Unfit still at) (inr (none, h)) = (
  without l p,
  inr (none, refl),
  left-unfit p kept l.rows l.rows (without l p) budget at h,
)
leaving-stops p kept l budget (request.Conflict by) h = absurd h
leaving-stops p kept l budget (request.Spent path) (kind, h) = λ whole small.
    spent-accepted false (without l p) (without l p).rows budget path
    (record {
      whole = whole;
      small = small;
      ordered = left-ordered p kept l.rows l.rows (without l p) [] path.corner h.begins;
      stops = (kind, record { begins = tt; lawful = h.lawful; count = h.count; no_end = h.no_end });
    })
leaving-stops p kept l budget request.OutOfMemory h = tt
