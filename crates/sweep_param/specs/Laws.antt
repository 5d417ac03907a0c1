-- A sweep is answered where there is room.
use Rattle.std.specs.Prelude.{◌≡◌, ◌+◌, ◌^◌, ◌≤◌, ◌⊎◌, ℕ, List, [], length}
use Rattle.frac_core.specs.Fraction.{Fraction, IsKept, IsLowest}
use Rattle.problem_core.specs.declared.parts.Mark.{Mark}
use Rattle.problem_core.specs.Layout.{Problem}
use Rattle.problem_core.specs.Kept.{IsWhole}
use Rattle.problem_core.specs.Corners.{IsCorner}
use Rattle.corner_laws.specs.Laws.{AllFit}
use Rattle.corner_lines.specs.Shifts.{with_constant}
use Rattle.sweep_laws.specs.Fractions.{IsBetween}
use Rattle.sweep_laws.specs.Stops.{HasConstant, IsUnfitTurn, Turns}
use Rattle.sweep_param.specs.Sweeps.{IsSweepStop}
use Rattle.sweep_run.specs.declared.stretches.SweepStop.{SweepStop}
use Rattle.sweep_run.specs.declared.stretches.SweepStop.TheVariants.{OutOfMemory}

-- the present constant, an end of the sweep, or one between at which a mark of some corner is 0 and isn't
-- elsewhere
abbrev pub IsMet : Problem → ℕ → Fraction → Fraction → Fraction → Fraction → Type 0
IsMet p row present from to w = (w ≡ present) ⊎ ((w ≡ from) ⊎ ((w ≡ to)
    ⊎ ((IsBetween present from w ⊎ IsBetween present to w)
    × ((at : List Mark) × (m : Mark) × IsCorner p at × Turns p row at m w))))

-- the budget is at least 3^N, where N counts rows and stays, and with each of these constants each quantity
-- fits at each corner, and so does each constant at which a mark of a corner is 0
pub record HasRoomToSweep (p : Problem) (row : ℕ) (from to : Fraction) (budget : ℕ) : Type 0 where
  pub exchanges : 3 ^ (length p.rows + length p.stays) ≤ budget
  pub start : AllFit p []
  pub fits : (present w : Fraction) → HasConstant p row present → IsLowest w → IsMet p row present from to w
      → AllFit (with_constant row w p) (with_constant row w p).rows
  pub turns : (present end : Fraction) (at : List Mark) (m : Mark) → HasConstant p row present
      → (end ≡ from) ⊎ (end ≡ to) → IsCorner p at → IsUnfitTurn p row present end at m → ⊥

-- with room nothing stops but for want of memory
abbrev pub SweepsAreAnswered : Type 0
SweepsAreAnswered = (p : Problem) (row : ℕ) (from to : Fraction) (budget : ℕ) (stop : SweepStop) → IsWhole p
    → IsKept from → IsKept to → HasRoomToSweep p row from to budget → IsSweepStop p row from to budget stop
    → stop ≡ OutOfMemory
