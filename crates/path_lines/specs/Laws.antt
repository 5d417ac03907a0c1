-- Why the route stops if no exchange can be made, and what the checker's answer on a path entails.
use Rattle.std.specs.Prelude.{◌≢◌, ℕ, List, ℤ, pos}
use Rattle.problem_core.specs.declared.parts.Side.TheVariants.{Under, Over}
use Rattle.problem_core.specs.declared.parts.RowName.{RowName}
use Rattle.problem_core.specs.declared.parts.Mark.{Mark}
use Rattle.problem_core.specs.Layout.{Problem}
use Rattle.problem_core.specs.Kept.{IsWhole}
use Rattle.problem_core.specs.Corners.{IsCorner, IsExchange, IsIn, Swap, place, place_of}
use Rattle.problem_core.specs.Rays.{HasRays}
use Rattle.corner_laws.specs.Laws.{IsMarkAt}
use Rattle.corner_lines.specs.LineEquations.{IsLineEquation, deviation}
use Rattle.path_lines.specs.Route.{MayGiveWay, over_marks}
use Rattle.path_lines.specs.Tables.{IsThere}

-- an entering line without a number in the leaving line's equation makes no exchange
abbrev pub ExchangeNeedsNumber : Type 0
ExchangeNeedsNumber = (p : Problem) (at : List Mark) (s : Swap) (own : ℕ) (by : RowName → ℤ) (num : ℤ)
    (den : ℕ) → IsWhole p → IsCorner p at → HasRays p at → IsMarkAt p (place s.enter)
    → s.enter.row ≢ s.leave.row → IsLineEquation p at (deviation s.leave.row) own by num den
    → IsExchange p at s → by s.enter.row ≢ pos 0

-- if no inside mark can give way to one of these marks, they are no corner
abbrev pub NoneGivesWay : Type 0
NoneGivesWay = (p : Problem) (wanted at : List Mark) (m : Mark) → IsCorner p at → HasRays p at
    → IsMarkAt p (place m) → (IsIn (place m) at → ⊥) → IsIn (place m) wanted
    → ((n : Mark) → MayGiveWay p wanted at (record { enter = m; leave = n }) → ⊥) → IsCorner p wanted → ⊥

-- both marks of a line are never among those of a corner
abbrev pub OneMarkOfLine : Type 0
OneMarkOfLine = (p : Problem) (at : List Mark) (name : RowName) → IsWhole p → IsCorner p at
    → IsIn (place_of name Under) at → IsIn (place_of name Over) at → ⊥

-- the over marks of the held rows are a corner, at which the route begins
abbrev pub BeginsThere : Type 0
BeginsThere = (p : Problem) → IsWhole p → IsThere p (over_marks p)
