-- What a priority level costs doesn't depend on the order of the stays.
use Rattle.std.specs.Prelude.{◌≡◌, ℕ, ◌<◌, ◌≤◌, List, ℤ}
use Rattle.problem_core.specs.declared.limits.TheConstants.{FIRST_STAY_LEVEL}
use Rattle.problem_core.specs.declared.parts.Mark.{Mark}
use Rattle.problem_core.specs.declared.parts.RowName.{RowName}
use Rattle.problem_core.specs.declared.parts.Stay.{Stay}
use Rattle.problem_core.specs.Layout.{Line, Problem, line_of_stay, lines, sum_of}
use Rattle.frac_core.specs.Fraction.{Fraction}
use Rattle.problem_core.specs.Levels.{IsCostAt}
use Rattle.problem_core.specs.Rays.{HasRays}
use Rattle.corner_laws.specs.Units.{IsLevelRow, IsLevelUnit, IsReducedBy}
use Rattle.stay_orders.specs.Orders.{fronted}

-- a sum over the lines that doesn't tell the levels of stays apart
abbrev pub FrontedSums : Type 0
FrontedSums = (f : Line → ℤ) → ((j k : ℕ) (s : Stay) → FIRST_STAY_LEVEL ≤ j → FIRST_STAY_LEVEL ≤ k
    → f (line_of_stay j s) ≡ f (line_of_stay k s)) → (attrs : List ℕ) (p : Problem)
    → sum_of f (lines (fronted attrs p)) ≡ sum_of f (lines p)

-- rays
abbrev pub FrontedRays : Type 0
FrontedRays = (attrs : List ℕ) (p : Problem) (at : List Mark) → HasRays p at → HasRays (fronted attrs p) at

-- units, rows and reduced costs of a priority level
pub record FrontedLevels (attrs : List ℕ) (p : Problem) (level : ℕ) : Type 0 where
  pub unit : (unit : ℕ) → IsLevelUnit p level unit → IsLevelUnit (fronted attrs p) level unit
  pub row : (at : List Mark) (unit own : ℕ) (by : RowName → ℤ) → IsLevelRow p at level unit own by
      → IsLevelRow (fronted attrs p) at level unit own by
  pub reduced : (unit own : ℕ) (by : RowName → ℤ) (reduced : ℕ → ℤ) → IsReducedBy p level unit own by reduced
      → IsReducedBy (fronted attrs p) level unit own by reduced

abbrev pub PrioritiesAreUnseen : Type 0
PrioritiesAreUnseen = (attrs : List ℕ) (p : Problem) (level : ℕ) → level < FIRST_STAY_LEVEL
    → FrontedLevels attrs p level

-- a priority level's cost
abbrev pub PrioritiesCostTheSame : Type 0
PrioritiesCostTheSame = (attrs : List ℕ) (p : Problem) (at : List Mark) (level : ℕ) (f : Fraction)
    → level < FIRST_STAY_LEVEL → IsCostAt p at level f → IsCostAt (fronted attrs p) at level f
