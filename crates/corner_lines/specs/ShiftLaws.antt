-- The laws of a constant that changes.
use Rattle.std.specs.Prelude.{◌≢◌, ℕ, List}
use Rattle.frac_core.specs.Fraction.{Fraction}
use Rattle.problem_core.specs.Layout.{Problem}
use Rattle.problem_core.specs.Kept.{IsWhole}
use Rattle.problem_core.specs.Corners.{IsCorner, attr_column}
use Rattle.problem_core.specs.Rays.{HasRays}
use Rattle.problem_core.specs.declared.parts.Mark.{Mark}
use Rattle.problem_core.specs.declared.parts.RowName.{RowName}
use Rattle.problem_core.specs.declared.parts.RowName.TheVariants.{Held}
use Rattle.corner_lines.specs.LineEquations.{deviation}
use Rattle.corner_lines.specs.Shifts.{IsShift, ShiftsBack, ShiftsByNumber, with_constant}

-- if a row's constant changes, the marks stay a corner
abbrev pub ShiftedIsCorner : Type 0
ShiftedIsCorner = (p : Problem) (at : List Mark) (id : ℕ) (from to more : Fraction) → IsWhole p
    → IsCorner p at → HasRays p at → IsShift p id from to more → IsCorner (with_constant id to p) at

-- each outside mark can still grow alone
abbrev pub ShiftedHasRays : Type 0
ShiftedHasRays = (p : Problem) (at : List Mark) (id : ℕ) (from to more : Fraction)
    → IsShift p id from to more → HasRays p at → HasRays (with_constant id to p) at

-- an attribute's equation keeps its numbers; its value grows by the row's number over `own` times the
-- difference
abbrev pub ShiftMovesAttrs : Type 0
ShiftMovesAttrs = (p : Problem) (at : List Mark) (id attr : ℕ) (from to more : Fraction) → IsWhole p
    → IsShift p id from to more → ShiftsByNumber p at id to more (λ x. x (attr_column attr))

-- so does the equation of another line's deviation
abbrev pub ShiftMovesLines : Type 0
ShiftMovesLines = (p : Problem) (at : List Mark) (id : ℕ) (name : RowName) (from to more : Fraction)
    → IsWhole p → IsShift p id from to more → name ≢ Held id → ShiftsByNumber p at id to more (deviation name)

-- if the row is inside, the value of its own deviation falls by the difference
abbrev pub ShiftMovesRow : Type 0
ShiftMovesRow = (p : Problem) (at : List Mark) (id : ℕ) (from to more : Fraction) → IsWhole p
    → IsShift p id from to more → ShiftsBack p at id to more
