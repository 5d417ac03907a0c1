-- Trials: some required rows on an empty engine.
use Rattle.std.specs.Prelude.{ℕ, false, List, []}
use Rattle.problem_core.specs.Layout.{Problem}
use Rattle.cert_core.specs.Stops.{IsShownConflict, IsStopOf}
use Rattle.cert_core.specs.declared.stops.RunStop.{RunStop}
use Rattle.cert_core.specs.declared.stops.RunStop.TheVariants as run
use Rattle.corner_view.specs.AddStops.{FromAdded}
use Rattle.layout_solver.specs.Layouts.{Layout}
use Rattle.conflict_core.specs.Cores.{AreRequired, trial}
use Rattle.conflict_core.specs.Shown.{IsSolution}
use Rattle.conflict_core.specs.declared.found.CoreStop.{CoreStop}
use Rattle.conflict_core.specs.declared.found.CoreStop.TheVariants.{Unfit, Spent, OutOfMemory}
use Rattle.conflict_core.specs.declared.trials.Outcome.{Outcome}
use Rattle.conflict_core.specs.declared.trials.Outcome.TheVariants.{Solved, Refuted}

-- the layout of no attribute and no row, as an engine is made
abbrev pub nothing : Layout
nothing = record { problem = record { rows = []; stays = [] }; values = []; corner = []; earlier = [] }

-- the rows of these numbers come to values that satisfy them, or to multipliers that refute them
abbrev pub IsOutcome : Problem → List ℕ → Outcome → Type 0
IsOutcome p ids (Solved values) = IsSolution (trial p ids) values
IsOutcome p ids (Refuted by) = IsShownConflict (trial p ids) by

-- how the addition of all attributes and the rows of these numbers to an empty engine stops
abbrev pub IsStopOfTrial : Problem → List ℕ → ℕ → RunStop → Type 0
IsStopOfTrial p ids budget stop =
    IsStopOf false (trial p ids) [] (FromAdded (trial p ids) [] (trial p ids).rows) budget stop

-- how the trial of the held required rows stops, or memory ran out
abbrev pub IsCoreStop : Problem → ℕ → CoreStop → Type 0
IsCoreStop p budget (Unfit held at) = AreRequired p held.items
    × IsStopOfTrial p held.items budget (run.Unfit at)
IsCoreStop p budget (Spent held path) = AreRequired p held.items
    × IsStopOfTrial p held.items budget (run.Spent path)
IsCoreStop p budget OutOfMemory = Unit {0}
