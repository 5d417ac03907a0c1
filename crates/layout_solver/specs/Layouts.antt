-- A layout: a problem with its best values, those before it, and what it becomes.
use Rattle.std.specs.Prelude.{◌≡◌, ◌≢◌, ℕ, List, [], ◌∷◌, ◌++◌, map, All, AllPairs}
use Rattle.frac_core.specs.Fraction.{Fraction, IsKept, IsLowest}
use Rattle.problem_core.specs.declared.parts.Stay.{Stay}
use Rattle.problem_core.specs.declared.parts.Mark.{Mark}
use Rattle.problem_core.specs.Layout.{Row, Problem, Assignment, IsBest, Gives}
use Rattle.problem_core.specs.Window.{zero_fraction}
use Rattle.problem_core.specs.Corners.{Point, StandsAt, assignment_at, attr_column}
use Rattle.corner_view.specs.Seen.{HasValueAt, IsKeptCorner}
use Rattle.corner_ends.specs.Runs.{IsBestEnd}

-- The fractions in lowest terms are the values that a best assignment gives the stays' attributes. No other
-- list is.
pub record AreBest (problem : Problem) (values : List (ℕ × Fraction)) : Type 0 where
  pub attributes : map (λ v. v.0) values ≡ map (λ s. s.attr) problem.stays
  pub lowest : All (λ v. IsLowest v.1) values
  pub best : (x : Assignment) × IsBest problem x × Gives values x

-- a problem, its best values, and the marks inside at their corner
pub record Solution : Type 0 where
  pub problem : Problem
  pub values : List (ℕ × Fraction)
  pub corner : List Mark

-- the present solution, and the earlier ones to go back to, the latest first
pub record Layout : Type 0 where
  pub problem : Problem
  pub values : List (ℕ × Fraction)
  pub corner : List Mark
  pub earlier : List Solution

-- the present solution
abbrev pub solution_of : Layout → Solution
solution_of l = record { problem = l.problem; values = l.values; corner = l.corner }

-- at the corner the attributes have these values
abbrev pub AreValuesAt : Problem → List Mark → List (ℕ × Fraction) → Type 0
AreValuesAt p at values = All (λ v. HasValueAt p at (attr_column v.0) v.1) values

-- no attribute has two values
abbrev pub AreApart : List (ℕ × Fraction) → Type 0
AreApart values = AllPairs (λ u v. u.0 ≢ v.0) values

-- what each solution keeps: the values are best, and stand at a corner without negative values and columns,
-- at which the required rows cost nothing
pub record IsKeptSolution (s : Solution) : Type 0 where
  pub best : AreBest s.problem s.values
  pub fit : All (λ v. IsKept v.1) s.values
  pub apart : AreApart s.values
  pub corner : IsKeptCorner s.problem s.corner
  pub values : AreValuesAt s.problem s.corner s.values
  pub end : IsBestEnd s.problem s.corner

-- the present solution keeps this; the earlier ones need not
abbrev pub IsKeptLayout : Layout → Type 0
IsKeptLayout l = IsKeptSolution (solution_of l)

-- a stay for each attribute, at its value
abbrev pub stays_at : List (ℕ × Fraction) → List Stay
stays_at values = map (λ v. record { attr = v.0; target = v.1 }) values

-- the attributes at 0
abbrev pub zeros : List ℕ → List (ℕ × Fraction)
zeros attrs = map (λ a. (a, zero_fraction)) attrs

-- with more attributes and more rows, and the stays moved to the values before
abbrev pub with_added : Layout → List ℕ → List Row → Problem
with_added old attrs rows = record {
  rows = old.problem.rows ++ rows;
  stays = stays_at (old.values ++ zeros attrs);
}

-- a best assignment gives the attribute this value
abbrev pub IsBestValue : Problem → ℕ → Fraction → Type 0
IsBestValue p attr f = (x : Assignment) × IsBest p x × Gives ((attr, f) ∷ []) x

-- ---- the ends of paths

-- at the corner the attributes have these values
abbrev pub GivesAt : Problem → List Mark → List (ℕ × Fraction) → Type 0
GivesAt p corner values = (x : Point) × StandsAt p corner x × Gives values (assignment_at x)
