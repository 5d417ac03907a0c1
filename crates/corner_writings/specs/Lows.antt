-- The lines whose marks have negative values.
use Rattle.std.specs.Prelude.{◌≡◌, ◌⊎◌, ◌++◌, ◌∷◌, [], ℕ, ◌<◌, List, pos, ◌<ℤ◌, ◌≤ℤ◌, All}
use Rattle.std.specs.Prelude.{Contains}
use Rattle.std.specs.Prelude.{Some, None}
use Rattle.std.specs.declared.option.Option.{Option}
use Rattle.problem_core.specs.declared.parts.RowName.{RowName}
use Rattle.problem_core.specs.declared.parts.Side.{Side}
use Rattle.corner_view.specs.Seen.{IsNamed}
use Rattle.corner_table.specs.Tables.{Lists, problem_of, slot_at, standing_at}
use Rattle.corner_table.specs.Invariants.{name_of}

-- ---- by slots

-- there is a side
abbrev pub HasSide : Option Side → Type 0
HasSide None = ⊥
HasSide (Some side) = Unit {0}

-- the slot has an inside mark, whose value is negative
abbrev pub IsLowSlot : Lists → ℕ → Type 0
IsLowSlot t w = HasSide (standing_at t w).side × ((standing_at t w).value.num <ℤ pos 0)

-- the name of what the slot is of
abbrev pub name_at : Lists → ℕ → RowName
name_at t w = name_of (slot_at t w).owner

-- its line is at the end, if it has
abbrev pub ListsSlot : Lists → ℕ → List RowName → List RowName → Type 0
ListsSlot t w old new = (IsLowSlot t w × (new ≡ old ++ name_at t w ∷ []))
    ⊎ ((IsLowSlot t w → ⊥) × (new ≡ old))

-- the lines of those of the slots that have are listed, and no others are new
pub record ListsSlots (t : Lists) (ws : List ℕ) (old new : List RowName) : Type 0 where
  pub keeps : (name : RowName) → Contains old name → Contains new name
  pub named : ((w : ℕ) → Contains ws w → IsLowSlot t w → IsNamed (problem_of t) (name_at t w))
      → All (IsNamed (problem_of t)) old → All (IsNamed (problem_of t)) new
  pub has : (w : ℕ) → Contains ws w → IsLowSlot t w → Contains new (name_at t w)
