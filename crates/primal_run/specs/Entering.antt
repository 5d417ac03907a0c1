-- Which marks may enter.
use Rattle.std.specs.Prelude.{◌≤ℤ◌, ◌<ℤ◌, List, ℤ, pos, false}
use Rattle.problem_core.specs.declared.limits.TheConstants.{REQUIRED}
use Rattle.problem_core.specs.declared.parts.Mark.{Mark}
use Rattle.problem_core.specs.declared.parts.RowName.{RowName}
use Rattle.problem_core.specs.declared.parts.Side.{Side}
use Rattle.problem_core.specs.declared.parts.Level.TheVariants.{Priority}
use Rattle.problem_core.specs.Layout.{Problem}
use Rattle.problem_core.specs.Corners.{HasNegativeColumn}
use Rattle.problem_core.specs.Changes.Paths.{IsEndOf}
use Rattle.corner_view.specs.Fronts.{IsFrontOf}
use Rattle.corner_view.specs.Seen.{IsOutside, IsReducedAt}
use Rattle.corner_ends.specs.Columns.{IsNegative}
use Rattle.primal_run.specs.declared.entering.Choice.{Choice}

-- the mark is outside, its column is negative, and its front is known
pub record IsChoice (p : Problem) (at : List Mark) (f : Choice) : Type 0 where
  pub negative : IsNegative p at f.mark
  pub front : IsFrontOf p at f.mark f.front
  pub below : f.front.reduced <ℤ pos 0

-- the mark is outside, and its reduced cost at the level of the required rows is below 0
pub record IsRequired (p : Problem) (at : List Mark) (m : Mark) : Type 0 where
  pub outside : IsOutside p at m
  pub reduced : ℤ
  pub is_reduced : IsReducedAt p at (Priority REQUIRED) m reduced
  pub below : reduced <ℤ pos 0

-- neither mark of the line has a reduced cost below 0 there
abbrev pub HasNoRequired : Problem → List Mark → RowName → Type 0
HasNoRequired p at name = (side : Side) → (z : ℤ)
    × IsReducedAt p at (Priority REQUIRED) (record { row = name; side = side }) z × (pos 0 ≤ℤ z)

-- the corner is no end, and the outside mark's column is negative
pub record MayEnter (p : Problem) (at : List Mark) (m : Mark) : Type 0 where
  pub no_end : IsEndOf false p at → ⊥
  pub outside : IsOutside p at m
  pub column : HasNegativeColumn p at m
