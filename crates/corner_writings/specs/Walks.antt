-- Where the strongest level of a line's column is met.
use Rattle.std.specs.Prelude.{◌≡◌, ◌≢◌, ℕ, ◌<◌, ◌≤◌, ℤ, pos, ◌*ℤ◌, length}
use Rattle.problem_core.specs.declared.parts.Rel.{Rel}
use Rattle.problem_core.specs.declared.parts.Rel.TheVariants.{Eq, Le, Ge}
use Rattle.problem_core.specs.declared.parts.Side.{Side}
use Rattle.problem_core.specs.declared.parts.Side.TheVariants.{Under, Over}
use Rattle.corner_table.specs.declared.table.Slot.{Slot}
use Rattle.corner_table.specs.Tables.{Lists, entry, slot_at}
use Rattle.corner_table.specs.Kept.{HasCost}
use Rattle.corner_table.specs.Reads.LevelNumbers.{HasReducedAt, IsLevelSlot, own_at, share_of}
use Rattle.corner_table.specs.Reads.LevelNumbers.{reduced_at, side_share, unit_at}
use Rattle.corner_writings.specs.declared.levels.Found.{Found}
use Rattle.corner_writings.specs.declared.levels.LevelRead.{LevelRead}

-- a side on which a line of this relation costs
abbrev pub dear_side : Rel → Side
dear_side Eq = Over
dear_side Le = Over
dear_side Ge = Under

-- no slot below l in whose rows w stands is that of a level
abbrev pub IsNoneBelow : Lists → ℕ → ℕ → Type 0
IsNoneBelow t w l = (m : ℕ) → entry t m w ≢ pos 0 → m < l → HasCost t m → ⊥

-- the slot l is that of a level; of those in whose rows w stands none is lower, nor is that of its own level
pub record IsLowestCost (t : Lists) (w l : ℕ) : Type 0 where
  pub cost : HasCost t l
  pub home : l ≤ (slot_at t w).home
  pub below : IsNoneBelow t w l

-- no slot above l in whose rows w stands is that of a level
abbrev pub IsNoneAbove : Lists → ℕ → ℕ → Type 0
IsNoneAbove t w l = (m : ℕ) → entry t m w ≢ pos 0 → l < m → HasCost t m → ⊥

-- the slot n above l is that of a level, and of those in whose rows w stands none between them is
pub record IsNextCost (t : Lists) (w l n : ℕ) : Type 0 where
  pub cost : HasCost t n
  pub above : l < n
  pub between : (m : ℕ) → entry t m w ≢ pos 0 → l < m → m < n → HasCost t m → ⊥

-- the mark of the line of slot w has no reduced cost at a level that is stronger than that of the slot l
abbrev pub IsStrongestAt : Lists → ℕ → Side → ℕ → Type 0
IsStrongestAt t w side l = (m : ℕ) → (slot_at t m).rank < (slot_at t l).rank → HasReducedAt t w side m → ⊥

-- neither mark of the line has
abbrev pub IsStrongestOf : Lists → ℕ → ℕ → Type 0
IsStrongestOf t w l = (side : Side) → IsStrongestAt t w side l

-- the slot is that of a level at which the mark of the line of slot w has this reduced cost, which isn't 0
pub record IsReducedThere (t : Lists) (w : ℕ) (side : Side) (found : Found) : Type 0 where
  pub within : found.l < length t.slots
  pub there : HasReducedAt t w side found.l
  pub reduced : found.reduced ≡ reduced_at t found.l w side

-- the numbers are those of the level at the slot
pub record IsLevelRead (t : Lists) (read : LevelRead) : Type 0 where
  pub slot : IsLevelSlot t read.l
  pub own : read.own ≡ own_at t read.l
  pub unit : read.unit ≡ unit_at t read.l

-- what a mark of the line costs by itself, where its level has this row's own number and this unit
abbrev pub cost_by : Slot → Side → ℤ → ℤ → ℤ
cost_by slot side own unit = own *ℤ pos (side_share slot.rel side (share_of slot unit))
