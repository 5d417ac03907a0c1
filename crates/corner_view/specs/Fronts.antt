-- The first level at which a mark's reduced cost isn't 0.
use Rattle.std.specs.Prelude.{◌≢◌, List, pos, IfNone, IfSome}
use Rattle.std.specs.declared.option.Option.{Option}
use Rattle.problem_core.specs.declared.parts.Mark.{Mark}
use Rattle.problem_core.specs.declared.parts.Level.{Level}
use Rattle.problem_core.specs.declared.parts.RowName.{RowName}
use Rattle.problem_core.specs.declared.parts.Side.TheVariants.{Under, Over}
use Rattle.problem_core.specs.Layout.{Problem}
use Rattle.corner_view.specs.Seen.{IsInUse, IsReducedAt, IsStronger}
use Rattle.corner_view.specs.declared.types.Front.{Front}
use Rattle.corner_view.specs.declared.types.Fronts.{Fronts}

-- the mark's reduced cost is not 0 at this level, and is 0 at each stronger one that is in use
pub record IsFrontOf (p : Problem) (at : List Mark) (m : Mark) (f : Front) : Type 0 where
  pub used : IsInUse p f.level
  pub reduced : IsReducedAt p at f.level m f.reduced
  pub nonzero : f.reduced ≢ pos 0
  pub first : (level : Level) → IsInUse p level → IsStronger p level f.level
      → IsReducedAt p at level m (pos 0)

-- the mark's reduced cost is 0 at each level that is in use
abbrev pub HasNoFront : Problem → List Mark → Mark → Type 0
HasNoFront p at m = (level : Level) → IsInUse p level → IsReducedAt p at level m (pos 0)

-- it is the mark's front, or the mark has none
abbrev pub IsFoundOf : Problem → List Mark → Mark → Option Front → Type 0
IsFoundOf p at m found = IfSome found (IsFrontOf p at m) × IfNone found (HasNoFront p at m)

-- the fronts of the line's marks
pub record AreFrontsOf (p : Problem) (at : List Mark) (row : RowName) (f : Fronts) : Type 0 where
  pub under : IsFoundOf p at (record { row = row; side = Under }) f.under
  pub over : IsFoundOf p at (record { row = row; side = Over }) f.over
