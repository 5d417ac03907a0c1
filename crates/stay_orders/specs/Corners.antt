-- What stands at a corner stands there in each order of the stays.
use Rattle.std.specs.Prelude.{ℕ, List}
use Rattle.problem_core.specs.declared.parts.Mark.{Mark}
use Rattle.problem_core.specs.Layout.{Problem}
use Rattle.problem_core.specs.Corners.{IsCorner, Point, Solves, StandsAt}
use Rattle.stay_orders.specs.Orders.{fronted}

-- the equations of a problem don't depend on the order of its stays
pub record FrontedSolves (attrs : List ℕ) (p : Problem) (x : Point) : Type 0 where
  pub to : Solves p x → Solves (fronted attrs p) x
  pub back : Solves (fronted attrs p) x → Solves p x

-- nor does what stands at marks
pub record FrontedStands (attrs : List ℕ) (p : Problem) (at : List Mark) (x : Point) : Type 0 where
  pub to : StandsAt p at x → StandsAt (fronted attrs p) at x
  pub back : StandsAt (fronted attrs p) at x → StandsAt p at x

-- the same for all points
abbrev pub OrderIsUnseen : Type 0
OrderIsUnseen = (attrs : List ℕ) (p : Problem) (at : List Mark) (x : Point)
    → FrontedSolves attrs p x × FrontedStands attrs p at x

-- a corner's marks are a corner's in each order
abbrev pub FrontedIsCorner : Type 0
FrontedIsCorner = (attrs : List ℕ) (p : Problem) (at : List Mark) → IsCorner p at
    → IsCorner (fronted attrs p) at
