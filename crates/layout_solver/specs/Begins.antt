-- Where the path of a change begins, and where it ends.
use Rattle.std.specs.Prelude.{◌≡◌, ℕ, Bool, true, false, List, []}
use Rattle.frac_core.specs.Fraction.{Fraction}
use Rattle.problem_core.specs.declared.parts.Mark.{Mark}
use Rattle.problem_core.specs.Layout.{Row, Problem}
use Rattle.cert_core.specs.Paths.{Path}
use Rattle.cert_core.specs.Stops.{IsStopOf}
use Rattle.cert_core.specs.declared.stops.RunStop.{RunStop}
use Rattle.corner_view.specs.AddStops.{FromAdded}
use Rattle.corner_view.specs.Seen.{in_order}
use Rattle.corner_ends.specs.Runs.{FromHere, IsBestEnd, IsRun}
use Rattle.layout_solver.specs.Layouts.{GivesAt}

-- the marks, by row number with the stays last, are an end, at which the attributes have these values
pub record IsReached (p : Problem) (at : List Mark) (values : List (ℕ × Fraction)) : Type 0 where
  pub ordered : at ≡ in_order p at
  pub end : IsBestEnd p at
  pub gives : GivesAt p at values

-- whether constants change, rather than rows join; the rows that are there before, those that join, and the
-- marks inside at the corner that was kept
pub record Start : Type 0 where
  pub dual : Bool
  pub before : List Row
  pub joining : List Row
  pub kept : List Mark

-- where a path to the problem may begin while these rows are still to join: at the corner that was kept if
-- constants change, otherwise with the mark of each row that joins
abbrev pub FromStart : Bool → List Mark → List Row → Problem → List Row → List Mark → Type 0
FromStart true kept joining p = FromHere kept
FromStart false kept joining p = FromAdded p kept joining

-- a run from there, within the budget, to these marks
abbrev pub IsRunTo : Start → Problem → ℕ → List Mark → Path → Type 0
IsRunTo s p budget last path = IsRun s.dual p (FromStart s.dual s.kept s.joining p []) budget last path

-- a run from there, within the budget, to an end with these values
pub record IsRunFrom (s : Start) (p : Problem) (budget : ℕ) (path : Path) (values : List (ℕ × Fraction))
    : Type 0 where
  pub last : List Mark
  pub run : IsRunTo s p budget last path
  pub reached : IsReached p last values

-- why a run from there stops
abbrev pub IsStopFrom : Start → Problem → ℕ → RunStop → Type 0
IsStopFrom s p budget stop = IsStopOf s.dual p s.before (FromStart s.dual s.kept s.joining p) budget stop
