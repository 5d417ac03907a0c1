-- Why what is only tried stops: another constant once rows have joined, and rows that join one after another.
use Rattle.std.specs.Prelude.{◌≡◌, ◌⊎◌, ◌<◌, ◌+◌, ℕ, zero, suc, true, false, List, [], length, take, drop}
use Rattle.frac_core.specs.declared.memory.Stop.TheVariants.{Refused}
use Rattle.problem_core.specs.declared.parts.Mark.{Mark}
use Rattle.problem_core.specs.declared.parts.Stay.{Stay}
use Rattle.problem_core.specs.Layout.{Problem, Row}
use Rattle.cert_core.specs.Stops.{IsStopOf}
use Rattle.cert_core.specs.declared.stops.RunStop.{RunStop}
use Rattle.cert_core.specs.declared.stops.RunStop.TheVariants.{OutOfMemory}
use Rattle.corner_view.specs.AddStops.{FromAdded}
use Rattle.corner_view.specs.Stops.{IsUnfitStop}
use Rattle.corner_ends.specs.Runs.{FromHere, IsBestEnd}
use Rattle.corner_lines.specs.Shifts.{with_constant}
use Rattle.layout_solver.specs.declared.engine.Change.{Change}
use Rattle.layout_solver.specs.declared.trying.TrialStop.{TrialStop}
use Rattle.layout_solver.specs.declared.trying.TrialStop.TheVariants.{Joining, Changing, Running}
use Rattle.layout_solver.specs.Starts.{HasAdded, as_problem}

-- ---- another constant

-- with another constant a dual run from these marks stops so
abbrev pub IsDualStop : Problem → List Mark → ℕ → RunStop → Type 0
IsDualStop p at budget stop = IsStopOf true p p.rows (FromHere at) budget stop

-- a constant changes at these marks, and that stops so: a quantity doesn't fit there with it, or the dual run
-- from there stops
abbrev pub IsChangeStop : Problem → List Mark → Change → ℕ → TrialStop → Type 0
IsChangeStop p at to budget (Joining stop) = ⊥
IsChangeStop p at to budget (Changing quantity) =
    IsUnfitStop (with_constant to.row to.constant p) at (Refused quantity)
IsChangeStop p at to budget (Running stop) =
    IsDualStop (with_constant to.row to.constant p) at budget stop

-- These rows join the marks that were kept, with the rows before, and then a constant changes. It stops so:
-- the rows don't join; or a valid path within the budget leads to a best corner with them, and the change
-- stops there.
abbrev pub IsTrialStop : Problem → (old : List Row) (kept : List Mark) (rows : List Row) → Change → ℕ
    → TrialStop → Type 0
IsTrialStop p old kept rows to budget (Joining stop) =
    IsStopOf false p old (FromAdded p kept rows) budget stop
IsTrialStop p old kept rows to budget stop = (at : List Mark) × HasAdded p kept rows budget at
    × IsBestEnd p at × IsChangeStop p at to budget stop

-- ---- rows one after another

-- So many of the first of these rows lead to these marks, one after another: from where each joins those
-- before it, a lawful path within the budget leads on.
abbrev pub AreLed : List Stay → List Row → ℕ → ℕ → List Mark → Type 0
AreLed stays rows budget zero at = at ≡ []
AreLed stays rows budget (suc i) at = (kept : List Mark) × AreLed stays rows budget i kept
    × HasAdded (as_problem (take (i + 1) rows) stays) kept (take 1 (drop i rows)) budget at

-- the row at this place joins these marks, and the run from there stops so
abbrev pub IsJoinStop : List Stay → List Row → ℕ → ℕ → List Mark → RunStop → Type 0
IsJoinStop stays rows budget i kept stop = IsStopOf false (as_problem (take (i + 1) rows) stays) (take i rows)
    (FromAdded (as_problem (take (i + 1) rows) stays) kept (take 1 (drop i rows))) budget stop

-- one of the rows stops so where it joins what those before it led to
abbrev pub IsEachStop : List Stay → List Row → ℕ → RunStop → Type 0
IsEachStop stays rows budget stop = (i : ℕ) × (kept : List Mark) × (i < length rows)
    × AreLed stays rows budget i kept × IsJoinStop stays rows budget i kept stop

-- The rows join one after another, and that stops so: memory runs out, one of them doesn't join, or the run
-- to the best corner after all of them stops.
abbrev pub IsLeadStop : List Stay → List Row → ℕ → RunStop → Type 0
IsLeadStop stays rows budget stop = (stop ≡ OutOfMemory) ⊎ IsEachStop stays rows budget stop
    ⊎ ((kept : List Mark) × AreLed stays rows budget (length rows) kept
    × IsStopOf false (as_problem rows stays) rows (FromHere kept) budget stop)
