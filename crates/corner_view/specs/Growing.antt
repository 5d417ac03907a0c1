-- What the outside marks cost with which an inside one grows.
use Rattle.std.specs.Prelude.{List, ℤ, pos, ◌<ℤ◌}
use Rattle.problem_core.specs.declared.parts.Level.{Level}
use Rattle.problem_core.specs.declared.parts.Mark.{Mark}
use Rattle.problem_core.specs.declared.parts.RowName.{RowName}
use Rattle.problem_core.specs.declared.parts.Side.{Side}
use Rattle.problem_core.specs.declared.stops.What.TheVariants.{Mark as MarkOf}
use Rattle.problem_core.specs.Layout.{Problem}
use Rattle.corner_view.specs.Entries.{HasEntry}
use Rattle.corner_view.specs.Seen.{IsCoefficientOf, IsReducedAt}

-- the inside mark grows with the outside one
abbrev pub GrowsWith : Problem → List Mark → Mark → Mark → Type 0
GrowsWith p at m k = (number : ℤ) × IsCoefficientOf p at (MarkOf m) k number × (pos 0 <ℤ number)

-- the inside mark grows with a mark of the line whose reduced cost at the level is above 0
pub record HasDearGrower (p : Problem) (at : List Mark) (m : Mark) (level : Level)
    (name : RowName) : Type 0 where
  pub side : Side
  pub grows : GrowsWith p at m (record { row = name; side = side })
  pub cost : ℤ
  pub reduced : IsReducedAt p at level (record { row = name; side = side }) cost
  pub above : pos 0 <ℤ cost

-- so it is for each line that has a number in the inside mark's writing
abbrev pub AreGrowersDear : Problem → List Mark → Mark → Level → Type 0
AreGrowersDear p at m level = (name : RowName) → HasEntry p at m name → HasDearGrower p at m level name
