-- What stops new rows from joining a corner.
use Rattle.std.specs.Prelude.{◌≡◌, List, ◌++◌, false}
use Rattle.problem_core.specs.declared.parts.Mark.{Mark}
use Rattle.problem_core.specs.Layout.{Row, Problem}
use Rattle.problem_core.specs.Changes.Begins.{BeginsWith}
use Rattle.corner_view.specs.Seen.{in_order, CornerView}
use Rattle.cert_core.specs.Stops.{IsPartial, IsStopOf}
use Rattle.cert_core.specs.declared.stops.UnfitPath.{UnfitPath}
use Rattle.cert_core.specs.declared.stops.RunStop.{RunStop}
use Rattle.cert_core.specs.declared.stops.RunStop.TheVariants.{Conflict, Unfit, Spent, OutOfMemory}
use Rattle.corner_laws.specs.Lifts.{with_rows}

-- some of the new rows have joined the kept marks with their marks that are not negative, and the rest are
-- over
abbrev pub FromAdded : Problem → List Mark → List Row → List Row → List Mark → Type 0
FromAdded p kept rows rest at = (joined : List Row) × (joined ++ rest ≡ rows)
    × BeginsWith p kept joined rest at
    × (at ≡ in_order p at)

-- want of memory, or a sum of a new row's terms or of a level's new rows that does not fit, with the path to
-- it
abbrev pub IsAddStop : CornerView → List Row → RunStop → Type 0
IsAddStop old rows (Conflict by) = ⊥
IsAddStop old rows (Spent path) = ⊥
IsAddStop old rows (Unfit at) = IsPartial at.quantity
    × IsStopOf false (with_rows rows old.problem) old.problem.rows
    (FromAdded (with_rows rows old.problem) old.marks rows) 0 (Unfit at)
IsAddStop old rows OutOfMemory = Unit {0}

-- nothing of which that tells: each sum of a new row's terms fits while the rows after it are over, and so
-- does the cost of a level's rows up to each new one once all have joined
abbrev pub AllSumsFit : CornerView → List Row → Type 0
AllSumsFit old rows = (at : UnfitPath) → IsAddStop old rows (Unfit at) → ⊥
