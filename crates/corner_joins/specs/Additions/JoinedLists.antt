-- Lines that are listed where rows have joined.
use Rattle.std.specs.Prelude.{◌≡◌, ◌≢◌, ◌⊎◌, ℕ, List, pos, All, Contains}
use Rattle.problem_core.specs.declared.parts.Mark.{Mark}
use Rattle.problem_core.specs.declared.parts.RowName.TheVariants.{Held}
use Rattle.problem_core.specs.declared.parts.Side.{Side}
use Rattle.problem_core.specs.Layout.{Row}
use Rattle.problem_core.specs.Corners.{IsIn, place_of}
use Rattle.corner_table.specs.Tables.{Lists, entry, line_slot, marks_at}
use Rattle.corner_table.specs.Reads.LevelNumbers.{side_share}

-- the row's inside mark costs nothing
abbrev pub IsFreeRow : List Mark → Row → Type 0
IsFreeRow at r = (side : Side) → IsIn (place_of (Held r.id) side) at → side_share r.rel side 1 ≡ 0

-- each other line that stands in the row of this slot is listed
abbrev pub IsRowListed : Lists → ℕ → List ℕ → Type 0
IsRowListed t w listed = (c : ℕ) → entry t w c ≢ pos 0 → c ≢ w → Contains listed c

-- for each row whose inside mark costs
abbrev pub AreRowsListed : Lists → List Row → List ℕ → Type 0
AreRowsListed t rows listed =
    All (λ r. IsFreeRow (marks_at t) r ⊎ IsRowListed t (line_slot t (Held r.id)) listed) rows
