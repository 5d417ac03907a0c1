-- The lines that have a number in an inside mark's writing.
use Rattle.std.specs.Prelude.{◌≡◌, ◌≢◌, ℕ, Bool, cond, nat_eq, List, [], ◌∷◌, map, filter, ℤ, pos, All}
use Rattle.std.specs.Prelude.{Contains}
use Rattle.problem_core.specs.declared.parts.RowName.{RowName}
use Rattle.problem_core.specs.declared.parts.Mark.{Mark}
use Rattle.problem_core.specs.declared.parts.Side.{Side}
use Rattle.problem_core.specs.declared.stops.What.TheVariants.{Mark as MarkOf}
use Rattle.problem_core.specs.Layout.{Problem}
use Rattle.corner_view.specs.declared.types.Owner.{Owner}
use Rattle.corner_view.specs.declared.types.Owner.TheVariants.{Line as LineSlot}
use Rattle.corner_view.specs.Seen.{CornerView, IsCoefficientOf, IsOutside}

-- an outside mark of another line has a number in the writing of the inside mark
pub record HasEntry (p : Problem) (at : List Mark) (m : Mark) (name : RowName) : Type 0 where
  pub other : name ≢ m.row
  pub side : Side
  pub outside : IsOutside p at (record { row = name; side = side })
  pub number : ℤ
  pub is : IsCoefficientOf p at (MarkOf m) (record { row = name; side = side }) number
  pub nonzero : number ≢ pos 0

-- neither mark of the line is inside
abbrev pub AreBothOutside : Problem → List Mark → RowName → Type 0
AreBothOutside p at name = (side : Side) → IsOutside p at (record { row = name; side = side })

-- all lines that have a number in the writing of the inside mark, in the order in which they came: neither of
-- their marks is inside
pub record AreEntries (v : CornerView) (m : Mark) (names : List RowName) : Type 0 where
  pub outside : All (AreBothOutside v.problem v.marks) names
  pub have : All (HasEntry v.problem v.marks m) names
  pub all : (name : RowName) → HasEntry v.problem v.marks m name → Contains names name
  pub in_order : (keep : Owner → Bool) × (map LineSlot names ≡ filter keep v.order)
