-- What has other values than at another time.
use Rattle.std.specs.Prelude.{◌≡◌, ◌≢◌, ◌⊎◌, ℕ, List, [], ◌∷◌, Contains}
use Rattle.std.specs.Prelude.{slice_get, slice_index_or}
use Rattle.std.specs.declared.option.Option.{Option}
use Rattle.frac_core.specs.Fraction.{Fraction}
use Rattle.problem_core.specs.Layout.{HasStay}
use Rattle.corner_view.specs.declared.types.Owner.TheVariants.{Attr as AttrSlot}
use Rattle.corner_table.specs.declared.table.Table.{Table}
use Rattle.corner_table.specs.Tables.{Lists, attr_slot, slot_at, standing_at}
use Rattle.corner_view.specs.Moves.{Shows, HasStayed}

-- ---- of attributes

-- the attribute's value in the lists
abbrev pub HasValue : Lists → ℕ → Fraction → Type 0
HasValue t attr f = HasStay t.stays attr × ((standing_at t (attr_slot t attr)).value ≡ f)

-- the lists at the newest mark
abbrev pub marked_of : Table → Lists
marked_of t = record {
  rows = slice_index_or t.rows.before 0 [];
  stays = slice_index_or t.stays.before 0 [];
  slots = slice_index_or t.slots.before 0 [];
  standings = slice_index_or t.standings.before 0 [];
  matrix = slice_index_or t.matrix.before 0 [];
  attr_slots = slice_index_or t.attr_slots.before 0 [];
  row_slots = slice_index_or t.row_slots.before 0 [];
  priorities = slice_index_or t.priorities.before 0 [];
}

-- no number has left
abbrev pub Keeps : List ℕ → List ℕ → Type 0
Keeps old new = (x : ℕ) → Contains old x → Contains new x

-- if the slot is an attribute's, this is one of them
abbrev pub IsListed : Lists → List ℕ → ℕ → Type 0
IsListed t attrs w = (attr : ℕ) → (slot_at t w).owner ≡ AttrSlot attr → Contains attrs attr

-- no slots but those at these places are others than they were
abbrev pub HaveOtherSlots : Lists → Lists → List ℕ → Type 0
HaveOtherSlots old new places = (w : ℕ) → Contains places w ⊎ (slice_get old.slots w ≡ slice_get new.slots w)

-- if the slot is an attribute's, this is the attribute's value, or it has none
abbrev pub HasOwnValue : Lists → ℕ → Option Fraction → Type 0
HasOwnValue t w f = (attr : ℕ) → (slot_at t w).owner ≡ AttrSlot attr → Shows HasValue t attr f

-- if the slot is an attribute's, this is one of them or has its value from before
abbrev pub IsListedOrStayed : Lists → Lists → List ℕ → ℕ → Type 0
IsListedOrStayed old new attrs w = (attr : ℕ) → (slot_at new w).owner ≡ AttrSlot attr
    → Contains attrs attr ⊎ HasStayed HasValue old new attr
