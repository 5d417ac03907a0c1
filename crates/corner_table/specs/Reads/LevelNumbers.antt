-- What the lists say of the levels' rows, by slots.
use Rattle.std.specs.Prelude.{◌≡◌, ◌≢◌, ℕ, ◌*◌, ◌/◌, ◌<◌, ◌≤◌, cond, nat_eq, nat_lt, ℤ, pos, neg_ℤ}
use Rattle.std.specs.Prelude.{◌+ℤ◌, ◌*ℤ◌, unsigned_abs}
use Rattle.std.specs.Prelude.{Any, Some, None}
use Rattle.std.specs.declared.option.Option.{Option}
use Rattle.frac_core.specs.Fraction.{IsFitting}
use Rattle.frac_core.specs.declared.frac.TheConstants.{PART_BOUND}
use Rattle.problem_core.specs.declared.parts.Rel.{Rel}
use Rattle.problem_core.specs.declared.parts.Side.{Side}
use Rattle.problem_core.specs.declared.parts.Side.TheVariants.{Under, Over}
use Rattle.problem_core.specs.declared.parts.Level.{Level}
use Rattle.problem_core.specs.Layout.{lines}
use Rattle.problem_core.specs.Certificates.{under_weight, over_weight}
use Rattle.problem_core.specs.Levels.{IsLevelAt}
use Rattle.corner_lines.specs.LineEquations.{sign_of}
use Rattle.problem_core.specs.declared.limits.TheConstants.{WEIGHT_LIMIT}
use Rattle.corner_lines.specs.Levels.StayLevels.{turned}
use Rattle.corner_table.specs.declared.table.Slot.{Slot}
use Rattle.corner_table.specs.declared.table.TheConstants.{LEVELS}
use Rattle.corner_table.specs.Tables.{Lists, entry, level_slot, line_slot, priority_at, problem_of, slot_at}
use Rattle.corner_table.specs.Tables.{standing_at}
use Rattle.corner_table.specs.Kept.{HasCost, level_own}

-- the slot is that of the level with the number k
abbrev pub IsSlotOfLevel : Lists → ℕ → ℕ → Type 0
IsSlotOfLevel t w k = (level : Level) × IsLevelAt (problem_of t) level k × (level_slot t level ≡ w)

-- the slot is that of a level
abbrev pub IsLevelSlot : Lists → ℕ → Type 0
IsLevelSlot t w = (k : ℕ) × IsSlotOfLevel t w k

-- the slot is that of a line of the problem
abbrev pub IsSlotOfLine : Lists → ℕ → Type 0
IsSlotOfLine t w = Any (λ l. line_slot t l.name ≡ w) (lines (problem_of t))

-- what is kept of a line's slot
abbrev pub IsLinesSlot : Lists → Slot → Type 0
IsLinesSlot t slot = (w : ℕ) × IsSlotOfLine t w × (slot_at t w ≡ slot)

-- ---- scales

-- the number where a mark is inside, and else 1
abbrev pub own_inside : Option Side → ℤ → ℤ
own_inside None z = pos 1
own_inside (Some side) z = z

-- the number of the level's row, 1 where it has none
abbrev pub own_at : Lists → ℕ → ℤ
own_at t w = cond (nat_lt w LEVELS) (level_own t w) (own_inside (standing_at t w).side (entry t w w))

-- the unit of the level's cost; that of a stay's is 1
abbrev pub unit_at : Lists → ℕ → ℤ
unit_at t w = cond (nat_lt w LEVELS) (priority_at t w).unit (pos 1)

-- ---- what marks cost

-- a line's slot and a unit
pub record IsCounted (slot : Slot) (unit : ℤ) : Type 0 where
  pub weight_is : slot.weight ≡ pos (unsigned_abs slot.weight)
  pub light : unsigned_abs slot.weight ≤ WEIGHT_LIMIT
  pub scale_is : slot.scale ≡ pos (unsigned_abs slot.scale)
  pub scale_positive : 0 < unsigned_abs slot.scale
  pub unit_is : unit ≡ pos (unsigned_abs unit)
  pub fits : IsFitting unit

-- what the line counts in these units of its level's cost
abbrev pub share_of : Slot → ℤ → ℕ
share_of slot unit = unsigned_abs unit * unsigned_abs slot.weight / unsigned_abs slot.scale

-- a deviation to the other side costs nothing
abbrev pub side_share : Rel → Side → ℕ → ℕ
side_share rel Under n = under_weight rel n
side_share rel Over n = over_weight rel n

-- what its mark counts in units of its level's cost
abbrev pub count_of : Lists → Slot → Side → ℕ
count_of t slot side = side_share slot.rel side (share_of slot (unit_at t slot.home))

-- what its mark costs by itself, where its level has its row's own number
abbrev pub own_cost : Lists → Slot → Side → ℤ
own_cost t slot side = own_at t slot.home *ℤ pos (count_of t slot side)

-- less than the most weight times what no longer fits
abbrev pub IsCost : ℤ → Type 0
IsCost z = unsigned_abs z < PART_BOUND * WEIGHT_LIMIT

-- ---- a line's number at the level of a slot

-- the number where a mark is inside, with the other sign of an under mark, and else 0
abbrev pub turned_inside : Option Side → ℤ → ℤ
turned_inside None z = pos 0
turned_inside (Some side) z = turned side z

-- that of an outside line, by its slot; a stay's level has the row of the inside stay, or none
abbrev pub outside_times : Lists → ℕ → ℕ → ℤ
outside_times t l w =
    cond (nat_lt l LEVELS) (neg_ℤ (entry t l w)) (turned_inside (standing_at t l).side (neg_ℤ (entry t l w)))

-- that of a line with this mark inside: it takes the mark's own cost away
abbrev pub inside_times : Lists → ℕ → ℕ → Side → ℤ
inside_times t l w side =
    cond (nat_eq (slot_at t w).home l) (neg_ℤ (sign_of side *ℤ own_cost t (slot_at t w) side)) (pos 0)

-- that of a line with this mark inside, or with none
abbrev pub times_by : Lists → Option Side → ℕ → ℕ → ℤ
times_by t None l w = outside_times t l w
times_by t (Some side) l w = inside_times t l w side

-- that of the line of slot w as it stands
abbrev pub times_at : Lists → ℕ → ℕ → ℤ
times_at t l w = times_by t (standing_at t w).side l w

-- the reduced cost of its mark
abbrev pub reduced_at : Lists → ℕ → ℕ → Side → ℤ
reduced_at t l w side =
    cond (nat_eq (slot_at t w).home l) (own_cost t (slot_at t w) side) (pos 0)
    +ℤ sign_of side *ℤ times_at t l w

-- ---- fronts

-- the slot is that of a level at which the mark of the slot w has a reduced cost
abbrev pub HasReducedAt : Lists → ℕ → Side → ℕ → Type 0
HasReducedAt t w side l = HasCost t l × (reduced_at t l w side ≢ pos 0)

-- the slot of the strongest level at which the mark has a reduced cost
pub record IsFirstSlot (t : Lists) (w : ℕ) (side : Side) (l : ℕ) : Type 0 where
  pub there : HasReducedAt t w side l
  pub first : (m : ℕ) → (slot_at t m).rank < (slot_at t l).rank → HasReducedAt t w side m → ⊥

-- of the slots in whose rows w stands
pub record IsFirstInColumn (t : Lists) (w : ℕ) (side : Side) (l : ℕ) : Type 0 where
  pub there : HasReducedAt t w side l
  pub first : (m : ℕ) → (slot_at t m).rank < (slot_at t l).rank → entry t m w ≢ pos 0
      → HasReducedAt t w side m → ⊥

-- no slot in whose row w stands is that of a level at which the mark has a reduced cost
abbrev pub IsNoneInColumn : Lists → ℕ → Side → Type 0
IsNoneInColumn t w side = (m : ℕ) → entry t m w ≢ pos 0 → HasReducedAt t w side m → ⊥

-- the level of the slot
abbrev pub IsLevelThere : Lists → ℕ → Level → Type 0
IsLevelThere t l level = ((k : ℕ) × IsLevelAt (problem_of t) level k) × (level_slot t level ≡ l)
