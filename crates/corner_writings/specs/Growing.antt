-- What the outside marks cost with which an inside one grows.
use Rattle.std.specs.Prelude.{◌≢◌, ℕ, List, ℤ, pos, negsuc, ◌<ℤ◌, All}
use Rattle.row_core.specs.Rows.{Term}
use Rattle.problem_core.specs.declared.parts.Side.{Side}
use Rattle.corner_laws.specs.Runs.{other_side}
use Rattle.corner_table.specs.Reads.LevelNumbers.{reduced_at}
use Rattle.corner_table.specs.Tables.{Lists}

-- ---- by slots

-- an inside mark of the second side grows with this side's mark of a line that has this number in its row
abbrev pub growing_side : ℤ → Side → Side
growing_side (pos n) side = other_side side
growing_side (negsuc n) side = side

-- the entry is the slot's own, or its line's mark with which the inside one grows has a reduced cost above 0
abbrev pub IsEntryDear : Lists → ℕ → Side → ℕ → Term → Type 0
IsEntryDear t w side l e = e.col ≢ w → pos 0 <ℤ reduced_at t l e.col (growing_side e.by side)

-- so it is with each entry of the row
abbrev pub IsRowDear : Lists → ℕ → Side → ℕ → List Term → Type 0
IsRowDear t w side l row = All (IsEntryDear t w side l) row
