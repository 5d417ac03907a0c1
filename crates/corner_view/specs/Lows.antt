-- The lines whose marks have negative values.
use Rattle.std.specs.Prelude.{◌≡◌, ◌⊎◌, ◌++◌, ◌∷◌, [], ℕ, ◌<◌, List, pos, ◌<ℤ◌, ◌≤ℤ◌, All}
use Rattle.std.specs.Prelude.{Contains}
use Rattle.frac_core.specs.Fraction.{Fraction}
use Rattle.problem_core.specs.declared.parts.Mark.{Mark}
use Rattle.problem_core.specs.declared.parts.RowName.{RowName}
use Rattle.problem_core.specs.declared.parts.Side.{Side}
use Rattle.problem_core.specs.declared.stops.What.TheVariants.{Mark as MarkOf}
use Rattle.problem_core.specs.Layout.{Problem}
use Rattle.problem_core.specs.Corners.{IsIn, place}
use Rattle.corner_view.specs.Seen.{HasValueAt, IsMarkOf, IsNamed, IsOutside, MovesWith}

-- the mark's value is not negative
abbrev pub HasValueUp : Problem → List Mark → Mark → Type 0
HasValueUp p at m = (f : Fraction) × (0 < f.den) × HasValueAt p at (place m) f × (pos 0 ≤ℤ f.num)

-- the line is listed, or the value of the inside mark is not negative
abbrev pub IsListedIfLow : Problem → List Mark → List RowName → Mark → Type 0
IsListedIfLow p at names m = Contains names m.row ⊎ HasValueUp p at m

-- the row's inside mark and those that move with its outside marks are of listed lines, if their values are
-- negative
pub record ListsLow (p : Problem) (at : List Mark) (row : RowName) (old new : List RowName) : Type 0 where
  pub keeps : (name : RowName) → Contains old name → Contains new name
  pub named : All (IsNamed p) old → All (IsNamed p) new
  pub own : (m : Mark) → m.row ≡ row → IsIn (place m) at → IsListedIfLow p at new m
  pub moved : (side : Side) → IsOutside p at (record { row = row; side = side }) → (m : Mark)
      → MovesWith p at (record { row = row; side = side }) (MarkOf m) → IsListedIfLow p at new m

-- the mark is one of the row or stay, and its value is negative
pub record IsLowMark (p : Problem) (at : List Mark) (row : RowName) (m : Mark) : Type 0 where
  pub own : m.row ≡ row
  pub mark : IsMarkOf p m
  pub value : Fraction
  pub above : 0 < value.den
  pub has : HasValueAt p at (place m) value
  pub low : value.num <ℤ pos 0

-- the value of neither mark is negative
abbrev pub AreNotLow : Problem → List Mark → RowName → Type 0
AreNotLow p at row = (side : Side) → HasValueUp p at (record { row = row; side = side })
