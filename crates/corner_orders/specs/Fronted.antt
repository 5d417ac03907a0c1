-- How stays are put before all others.
use Rattle.std.specs.Prelude.{◌≡◌, ℕ, ◌+◌, List, [], ◌∷◌, map, slice_set}
use Rattle.problem_core.specs.declared.parts.RowName.TheVariants.{Stay as StayOf}
use Rattle.problem_core.specs.declared.parts.Stay.{Stay}
use Rattle.corner_table.specs.declared.table.Slot.{Slot}
use Rattle.corner_table.specs.declared.table.TheConstants.{LEVELS}
use Rattle.corner_table.specs.Tables.{IsListedOf, Lists, line_slot, row_at, slot_at}

-- the slot with this rank
abbrev pub ranked : ℕ → Slot → Slot
ranked rank s = record {
  owner = s.owner;
  home = s.home;
  rank = rank;
  weight = s.weight;
  scale = s.scale;
  rel = s.rel;
}

-- the lists with other slots
abbrev pub with_slots : List Slot → Lists → Lists
with_slots slots t = record {
  rows = t.rows;
  stays = t.stays;
  slots = slots;
  standings = t.standings;
  matrix = t.matrix;
  attr_slots = t.attr_slots;
  row_slots = t.row_slots;
  priorities = t.priorities;
}

-- with this rank in the slot w
abbrev pub with_rank : ℕ → ℕ → Lists → Lists
with_rank w rank t = with_slots (slice_set t.slots w (ranked rank (slot_at t w))) t

-- with ranks in these slots, one by one from this one on
abbrev pub with_ranks : ℕ → List ℕ → Lists → Lists
with_ranks rank [] t = t
with_ranks rank (w ∷ slots) t = with_ranks (rank + 1) slots (with_rank w rank t)

-- with these stays in place of those that are there
abbrev pub with_order : List Stay → Lists → Lists
with_order order t = record {
  rows = t.rows;
  stays = order;
  slots = t.slots;
  standings = t.standings;
  matrix = t.matrix;
  attr_slots = t.attr_slots;
  row_slots = t.row_slots;
  priorities = t.priorities;
}

-- the slots of these stays
abbrev pub slots_of : Lists → List Stay → List ℕ
slots_of t order = map (λ s. line_slot t (StayOf s.attr)) order

-- the stays are in this order, and ranks go up with their places, behind those of the priority levels; all
-- else is as before
abbrev pub AreFronted : List Stay → Lists → Lists → Type 0
AreFronted order old new = new ≡ with_order order (with_ranks LEVELS (slots_of old order) old)

-- what is listed once the rows of these attributes' stays were gone through
abbrev pub AreListedOf : Lists → List ℕ → List ℕ → List ℕ → Type 0
AreListedOf t [] old new = new ≡ old
AreListedOf t (attr ∷ attrs) old new = (mid : List ℕ)
    × IsListedOf (line_slot t (StayOf attr)) (row_at t (line_slot t (StayOf attr))) old mid
    × AreListedOf t attrs mid new
