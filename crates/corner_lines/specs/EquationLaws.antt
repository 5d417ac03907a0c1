-- The laws of lines' equations.
use Rattle.std.specs.Prelude.{◌≡◌, ◌≢◌, ℕ, ℤ, pos, List, AllPairs}
use Rattle.problem_core.specs.Layout.{Problem}
use Rattle.problem_core.specs.Kept.{IsWhole}
use Rattle.problem_core.specs.Corners.{IsCorner, IsExchange, IsIn, SameMarks, Swap, place, place_of}
use Rattle.problem_core.specs.Rays.{HasRays}
use Rattle.problem_core.specs.Unfit.{HasNoWriting}
use Rattle.problem_core.specs.declared.parts.Mark.{Mark}
use Rattle.problem_core.specs.declared.parts.RowName.{RowName}
use Rattle.problem_core.specs.declared.parts.Side.{Side}
use Rattle.corner_laws.specs.Laws.{IsMarkAt}
use Rattle.corner_laws.specs.Runs.{other_side}
use Rattle.corner_lines.specs.LineEquations.{IsLineEquation, IsUnfitLine, deviation}
use Rattle.corner_lines.specs.LineExchanges.{AllStay, IsCarried, IsResolved, MarkMovesByLine, MovesByLine}
use Rattle.corner_lines.specs.LineExchanges.{StaysWithout}
use Rattle.corner_lines.specs.LineLaws.{AreOnlyTerms, HasLineNumbers, HasMarkNumbers, HoldInOtherOrder}
use Rattle.corner_lines.specs.LineLaws.{IsMarkToldUnfit, IsUnfitValue, IsMarkWritten, IsReducible}
use Rattle.corner_lines.specs.LineLaws.{IsToldUnfit, IsWritten}

-- a line's equation is the writing of its quantity
abbrev pub LineIsWritten : Type 0
LineIsWritten = (p : Problem) (at : List Mark) (quantity : (ℕ → ℤ) → ℤ) → IsWhole p → IsCorner p at
    → IsWritten p at quantity

-- the equation of an inside line's deviation is the writing of its inside mark
abbrev pub MarkIsWritten : Type 0
MarkIsWritten = (p : Problem) (at : List Mark) (name : RowName) (side : Side) → IsWhole p → IsCorner p at
    → IsIn (place_of name side) at → IsMarkWritten p at name side

-- the coefficients of a line's equation
abbrev pub LineHasNumbers : Type 0
LineHasNumbers = (p : Problem) (by : RowName → ℤ) → IsWhole p → HasLineNumbers p by

-- the coefficients of an inside mark's writing
abbrev pub MarkHasNumbers : Type 0
MarkHasNumbers = (p : Problem) (at : List Mark) (name : RowName) (side : Side) → IsWhole p → IsCorner p at
    → IsIn (place_of name side) at → HasMarkNumbers p at name side

-- a line's sum in lowest terms is an equation
abbrev pub SumIsReducible : Type 0
SumIsReducible = (p : Problem) (at : List Mark) (quantity : (ℕ → ℤ) → ℤ) → IsReducible p at quantity

-- a line's sum has one form in lowest terms
abbrev pub LowestTermsAreOne : Type 0
LowestTermsAreOne = (p : Problem) → AreOnlyTerms p

-- if the lowest terms of a line's sum, or its value, do not fit, its quantity has no writing that fits
abbrev pub UnfitFromLine : Type 0
UnfitFromLine = (p : Problem) (at : List Mark) (quantity : (ℕ → ℤ) → ℤ) → IsWhole p → IsCorner p at
    → HasRays p at → IsToldUnfit p at quantity

-- the same for an inside mark, by the sum of its line's deviation
abbrev pub MarkUnfitFromLine : Type 0
MarkUnfitFromLine = (p : Problem) (at : List Mark) (name : RowName) (side : Side) → IsWhole p
    → IsCorner p at → HasRays p at → IsIn (place_of name side) at → IsMarkToldUnfit p at name side

-- if a deviation has no writing that fits, its line's inside mark has none
abbrev pub MarkUnfitFromDeviation : Type 0
MarkUnfitFromDeviation = (p : Problem) (at : List Mark) (name : RowName) (side : Side) → IsWhole p
    → IsCorner p at → IsIn (place_of name side) at → HasNoWriting p at (deviation name)
    → HasNoWriting p at (λ x. x (place_of name side))

-- the leaving line's equation gives the entering line's equation at the next corner, in lowest terms
abbrev pub PivotIsResolved : Type 0
PivotIsResolved = (p : Problem) (at : List Mark) (s : Swap) → IsWhole p → IsCorner p at
    → IsMarkAt p (place s.enter) → IsIn (place s.leave) at → IsResolved p at s

-- the equation of each quantity at the next corner
abbrev pub EquationIsCarried : Type 0
EquationIsCarried = (p : Problem) (at : List Mark) (s : Swap) (quantity : (ℕ → ℤ) → ℤ) → IsWhole p
    → IsMarkAt p (place s.enter) → IsIn (place s.leave) at → IsCarried p at s quantity

-- an equation without a number for the entering line holds at the next corner
abbrev pub EquationStays : Type 0
EquationStays = (p : Problem) (at : List Mark) (s : Swap) → StaysWithout p at s

-- if the two marks of a line are exchanged, all equations stay
abbrev pub TurnKeepsEquations : Type 0
TurnKeepsEquations = (p : Problem) (at : List Mark) (s : Swap) → IsCorner p at → IsIn (place s.leave) at
    → s.enter.row ≡ s.leave.row → AllStay p at s

-- the two marks of an inside line can be exchanged
abbrev pub TurnIsExchange : Type 0
TurnIsExchange = (p : Problem) (at : List Mark) (s : Swap) → IsWhole p → IsCorner p at
    → IsIn (place s.leave) at → s.enter.row ≡ s.leave.row → s.enter.side ≡ other_side s.leave.side
    → IsExchange p at s

-- if a line has a number in an inside line's equation, its marks can be exchanged for that line's inside mark
abbrev pub LineIsExchange : Type 0
LineIsExchange = (p : Problem) (at : List Mark) (s : Swap) (own : ℕ) (by : RowName → ℤ) (num : ℤ) (den : ℕ)
    → IsWhole p → IsCorner p at → HasRays p at → IsMarkAt p (place s.enter) → IsIn (place s.leave) at
    → IsLineEquation p at (deviation s.leave.row) own by num den → by s.enter.row ≢ pos 0 → IsExchange p at s

-- which columns move when a mark grows
abbrev pub LineMoves : Type 0
LineMoves = (p : Problem) (at : List Mark) (name : RowName) (side : Side) (c : ℕ) → IsWhole p
    → IsCorner p at → IsMarkAt p (place_of name side) → MovesByLine p at name side c

-- which inside marks move when a mark grows
abbrev pub MarkMoves : Type 0
MarkMoves = (p : Problem) (at : List Mark) (name inside : RowName) (side to : Side) → IsWhole p
    → IsCorner p at → IsMarkAt p (place_of name side) → IsIn (place_of inside to) at
    → MarkMovesByLine p at name side inside to

-- if its value doesn't fit, a line's sum doesn't
abbrev pub UnfitFromValue : Type 0
UnfitFromValue = (p : Problem) (own : ℕ) (by : RowName → ℤ) (num : ℤ) (den : ℕ) → IsUnfitValue num den
    → IsUnfitLine p own by num den

-- the order of a corner's marks is free
abbrev pub SameMarksAreCorner : Type 0
SameMarksAreCorner = (p : Problem) (at other : List Mark) → SameMarks at other
    → AllPairs (λ m n. place m ≢ place n) other → IsCorner p at → IsCorner p other

-- each outside mark can grow alone, whatever the order
abbrev pub SameMarksHaveRays : Type 0
SameMarksHaveRays = (p : Problem) (at other : List Mark) → SameMarks at other → HasRays p at → HasRays p other

-- equations hold whatever the order
abbrev pub SameMarksKeepEquations : Type 0
SameMarksKeepEquations = (p : Problem) (at other : List Mark) → SameMarks at other
    → HoldInOtherOrder p at other
