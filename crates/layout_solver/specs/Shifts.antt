-- Constants that change.
use Rattle.std.specs.Prelude.{◌≡◌, ℕ, true, List, [], ◌∷◌, map, All}
use Rattle.frac_core.specs.Fraction.{IsKept}
use Rattle.problem_core.specs.Layout.{Row, Problem}
use Rattle.problem_core.specs.declared.parts.Mark.{Mark}
use Rattle.problem_core.specs.declared.stops.What.{What}
use Rattle.problem_core.specs.declared.stops.Quantity.{Quantity}
use Rattle.problem_core.specs.declared.stops.Quantity.TheVariants.{Plain, Shifts}
use Rattle.problem_core.specs.Changes.Paths.{IsPath}
use Rattle.problem_core.specs.Unfit.{IsUnfit}
use Rattle.cert_core.specs.Stops.{IsStopOf}
use Rattle.cert_core.specs.declared.stops.RunStop.{RunStop}
use Rattle.corner_ends.specs.Runs.{FromHere}
use Rattle.corner_view.specs.Changes.{IsNear}
use Rattle.corner_view.specs.Seen.{CornerView, Scene}
use Rattle.corner_lines.specs.Shifts.{has_constant, with_constant}
use Rattle.layout_solver.specs.declared.engine.Change.{Change}
use Rattle.layout_solver.specs.Layouts.{Layout, stays_at}

-- the rows with these constants, one after the other
abbrev pub shifted : List Change → List Row → List Row
shifted [] rows = rows
shifted (c ∷ more) rows = shifted more (map (has_constant c.row c.constant) rows)

-- the problem with these constants
abbrev pub with_constants : List Change → Problem → Problem
with_constants to p = record { rows = shifted to p.rows; stays = p.stays }

-- with other constants in these rows, and the stays moved to the values before
abbrev pub with_shifts : Layout → List Change → Problem
with_shifts old to = record { rows = shifted to old.problem.rows; stays = stays_at old.values }

-- the problem has each of these rows, and what the new constant is above the row's own fits
abbrev pub CanShift : Problem → List Change → Type 0
CanShift p [] = Unit {0}
CanShift p (c ∷ more) = IsNear p c.row c.constant × CanShift (with_constant c.row c.constant p) more

-- each constant is in lowest terms, and fits, as all fractions are
abbrev pub AreKept : List Change → Type 0
AreKept to = All (λ t. IsKept t.constant) to

-- the marks inside are those at the newest of the earlier corners
abbrev pub IsAtMark : CornerView → Type 0
IsAtMark c = (newest : Scene) × (rest : List Scene) × (c.before ≡ newest ∷ rest)
    × (c.marks ≡ newest.marks)

-- how a dual run from these marks stops if this does not fit there after so many constants changed
abbrev pub IsShiftsStop : List Mark → Quantity → ℕ → RunStop → Type 0
IsShiftsStop at quantity changed stop = (p : Problem) (old : List Row) (what : What) → quantity ≡ Plain what
    → IsPath true p at [] → IsUnfit p old at (Shifts what changed)
    → (budget : ℕ) → IsStopOf true p old (FromHere at) budget stop
