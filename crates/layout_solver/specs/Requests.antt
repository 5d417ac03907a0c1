-- Requests to an engine, their outcomes, and why they stop.
use Rattle.std.specs.Prelude.{◌≡◌, ◌≢◌, ◌<◌, ℕ, true, false, List, [], All, AllPairs}
use Rattle.problem_core.specs.Kept.{IsWhole}
use Rattle.problem_core.specs.Layout.{HasStay, Problem}
use Rattle.cert_core.specs.Paths.{Path}
use Rattle.cert_core.specs.Stops.{IsStopOf}
use Rattle.cert_core.specs.declared.stops.RunStop.{RunStop}
use Rattle.cert_core.specs.declared.stops.RunStop.TheVariants as run
use Rattle.corner_view.specs.AddStops.{FromAdded}
use Rattle.corner_ends.specs.Runs.{FromHere, IsRun}
use Rattle.layout_solver.specs.declared.engine.Change.{Change}
use Rattle.layout_solver.specs.declared.request.Request.{Request}
use Rattle.layout_solver.specs.declared.request.Request.TheVariants.{Add, Shift, Remove, Keep, Stand}
use Rattle.layout_solver.specs.declared.request.RequestStop.{RequestStop}
use Rattle.layout_solver.specs.declared.request.RequestStop.TheVariants.{Conflict, Unfit, Spent, OutOfMemory}
use Rattle.layout_solver.specs.Keeping.{AreAtStays, NoConflict, with_kept}
use Rattle.layout_solver.specs.Layouts.{Layout, with_added}
use Rattle.layout_solver.specs.Removals.{CanLeave, HasRemoved, IsRemoveStop, stood, with_removed}
use Rattle.layout_solver.specs.Shifts.{AreKept, CanShift, with_shifts}
use Rattle.layout_solver.specs.Starts.{HasAdded}

-- the problem has each of these rows, which rise, and what its new constant is above its own fits
pub record AreShifts (p : Problem) (to : List Change) : Type 0 where
  pub held : CanShift p to
  pub rising : AllPairs (λ a b. a.row < b.row) to
  pub kept : AreKept to

-- the problem has a stay for each of these attributes, which differ
pub record AreStays (p : Problem) (attrs : List ℕ) : Type 0 where
  pub held : All (HasStay p.stays) attrs
  pub apart : AllPairs (λ a b. a ≢ b) attrs

-- the request can be asked of an engine with this layout
abbrev pub CanSolve : Layout → Request → Type 0
CanSolve l (Add attrs rows) = IsWhole (with_added l attrs.items rows.items)
CanSolve l (Shift to) = AreShifts l.problem to.items
CanSolve l (Remove rows attrs) = CanLeave (record { rows = rows.items; attrs = attrs.items }) l.problem
CanSolve l (Keep attrs) = AreStays l.problem attrs.items
CanSolve l Stand = Unit {0}

-- the problem that the request makes of the layout's
abbrev pub posed_by : Layout → Request → Problem
posed_by l (Add attrs rows) = with_added l attrs.items rows.items
posed_by l (Shift to) = with_shifts l to.items
posed_by l (Remove rows attrs) = with_removed l (record { rows = rows.items; attrs = attrs.items })
posed_by l (Keep attrs) = with_kept l attrs.items
posed_by l Stand = stood l

-- a lawful path within the budget leads from the first layout's corner to the second one's; after `Keep` the
-- attributes stay where they are, and after `Stand` the corner too
abbrev pub IsSolvedBy : Layout → Request → ℕ → Layout → Type 0
IsSolvedBy old (Add attrs rows) budget new =
    HasAdded (with_added old attrs.items rows.items) old.corner rows.items budget new.corner
IsSolvedBy old (Shift to) budget new = (path : Path)
    × IsRun true (with_shifts old to.items) (FromHere old.corner []) budget new.corner path
IsSolvedBy old (Remove rows attrs) budget new = HasRemoved (stood old) old.corner
    (record { rows = rows.items; attrs = attrs.items }) budget new.corner
IsSolvedBy old (Keep attrs) budget new = AreAtStays new
    × HasAdded (with_kept old attrs.items) old.corner [] budget new.corner
IsSolvedBy old Stand budget new = (new.values ≡ old.values) × (new.corner ≡ old.corner)

-- the stop as that of a run
abbrev pub run_of : RequestStop → RunStop
run_of (Conflict by) = run.Conflict by
run_of (Unfit still at) = run.Unfit at
run_of (Spent path) = run.Spent path
run_of OutOfMemory = run.OutOfMemory

-- the rows that are still held
abbrev pub still_of : RequestStop → List ℕ
still_of (Conflict by) = []
still_of (Unfit still at) = still.items
still_of (Spent path) = []
still_of OutOfMemory = []

-- Why the request has no solution within the budget, or none was found: `Remove` and `Keep` have no conflict,
-- and `Stand` stops only if memory runs out.
abbrev pub IsRequestStop : Layout → Request → ℕ → RequestStop → Type 0
IsRequestStop l (Add attrs rows) budget stop = (still_of stop ≡ [])
    × IsStopOf false (with_added l attrs.items rows.items) l.problem.rows
    (FromAdded (with_added l attrs.items rows.items) l.corner rows.items) budget (run_of stop)
IsRequestStop l (Shift to) budget stop = (still_of stop ≡ [])
    × IsStopOf true (with_shifts l to.items) l.problem.rows (FromHere l.corner) budget (run_of stop)
IsRequestStop l (Remove rows attrs) budget stop = IsRemoveStop (stood l) l.corner
    (record { rows = rows.items; attrs = attrs.items }) budget stop
IsRequestStop l (Keep attrs) budget stop = (still_of stop ≡ []) × NoConflict (run_of stop)
    × IsStopOf false (with_kept l attrs.items) l.problem.rows
    (FromAdded (with_kept l attrs.items) l.corner []) budget (run_of stop)
IsRequestStop l Stand budget stop = stop ≡ OutOfMemory
