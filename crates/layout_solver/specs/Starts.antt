-- The problem that a run begins with.
use Rattle.std.specs.Prelude.{◌≡◌, ◌≢◌, ℕ, ◌<◌, false, List, [], ◌∷◌, ◌++◌, length, map, All}
use Rattle.std.specs.List.{AllByRecursion as Each}
use Rattle.frac_core.specs.Fraction.{Fraction, IsLowest}
use Rattle.problem_core.specs.declared.limits.TheConstants.{ROW_LIMIT}
use Rattle.problem_core.specs.declared.parts.Mark.{Mark}
use Rattle.problem_core.specs.declared.parts.Stay.{Stay}
use Rattle.problem_core.specs.Layout.{Problem, Row}
use Rattle.problem_core.specs.Kept.{IsNumber}
use Rattle.cert_core.specs.Paths.{Path}
use Rattle.corner_view.specs.AddStops.{FromAdded}
use Rattle.corner_view.specs.Changes.{scene_of}
use Rattle.corner_view.specs.Seen.{CornerView, Scene}
use Rattle.corner_ends.specs.Runs.{IsRun}
use Rattle.layout_solver.specs.Layouts.{AreValuesAt, stays_at, zeros}

-- beside the attributes that are held there is room for these, none of which is one of them
abbrev pub CanTake : List ℕ → List ℕ → Type 0
CanTake held [] = Unit {0}
CanTake held (a ∷ attrs) =
    IsNumber a × Each (λ h. h ≢ a) held × (length held < ROW_LIMIT) × CanTake (held ++ (a ∷ [])) attrs

-- the attributes of the stays, in order
abbrev pub attrs_of : Problem → List ℕ
attrs_of p = map (λ s. s.attr) p.stays

-- the problem of these rows and stays
abbrev pub as_problem : List Row → List Stay → Problem
as_problem rows stays = record { rows = rows; stays = stays }

-- the problem has these rows, the corner's attributes at their values there, and more of them at 0
pub record IsMoved (from : CornerView) (attrs : List ℕ) (rows : List Row) (p : Problem) : Type 0 where
  pub values : List (ℕ × Fraction)
  pub attributes : map (λ v. v.0) values ≡ attrs_of from.problem
  pub lowest : All (λ v. IsLowest v.1) values
  pub stand : AreValuesAt from.problem from.marks values
  pub is : p ≡ record { rows = rows; stays = stays_at (values ++ zeros attrs) }

-- the newest mark is that of the corner of now
abbrev pub IsMarkedHere : CornerView → Type 0
IsMarkedHere c = (rest : List Scene) × (c.before ≡ scene_of c ∷ rest)

-- a lawful path within the budget from where these rows have joined the kept marks to the last ones
abbrev pub HasAdded : Problem → List Mark → List Row → ℕ → List Mark → Type 0
HasAdded p kept rows budget last = (path : Path) × IsRun false p (FromAdded p kept rows []) budget last path
