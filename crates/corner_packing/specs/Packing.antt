-- Slots that are packed: those of nothing are gone, and the others stand one behind another, in their order.
use Rattle.std.specs.Prelude.{◌≡◌, ◌≢◌, ◌⊎◌, ℕ, ◌+◌, ◌<◌, ◌≤◌, cond, nat_lt, List, length, All}
use Rattle.frac_core.specs.Fraction.{IsKept}
use Rattle.version_lists.specs.Numbers.{AreRenumbered}
use Rattle.row_core.specs.Rows.{IsKeptRow}
use Rattle.row_core.specs.Renames.{place_in, renamed}
use Rattle.corner_view.specs.declared.types.Owner.TheVariants.{Level as LevelSlot}
use Rattle.corner_table.specs.declared.table.Slot.{Slot}
use Rattle.corner_table.specs.declared.table.TheConstants.{LEVELS, OWN_RANK}
use Rattle.corner_table.specs.Tables.{Lists, row_at, slot_at, standing_at}

-- the slot is a level's, or of something
abbrev pub IsTaken : Lists → ℕ → Type 0
IsTaken t w = (w < LEVELS) ⊎ ((w < length t.slots) × ((slot_at t w).owner ≢ LevelSlot))

-- by slot the place that it gets: the slots that are taken get all places below the count, in their order,
-- those of the levels their own, and one that follows another one the next place; no other slot gets one,
-- which the place 0 says
pub record ArePlaces (t : Lists) (places : List ℕ) (count : ℕ) : Type 0 where
  pub length_is : length places ≡ length t.slots
  pub levels : (w : ℕ) → w < LEVELS → place_in places w ≡ w
  pub none : (w : ℕ) → (IsTaken t w → ⊥) → place_in places w ≡ 0
  pub high : (w : ℕ) → LEVELS ≤ w → IsTaken t w → LEVELS ≤ place_in places w
  pub within : (w : ℕ) → IsTaken t w → place_in places w < count
  pub low : (w : ℕ) → place_in places w ≤ w
  pub rising : (v w : ℕ) → v < w → IsTaken t v → IsTaken t w → place_in places v < place_in places w
  pub next : (w : ℕ) → IsTaken t w → IsTaken t (w + 1) → place_in places (w + 1) ≡ place_in places w + 1
  pub onto : (v : ℕ) → v < count → (w : ℕ) × IsTaken t w × (place_in places w ≡ v)

-- the rank of what gets this place: a stay's own rank is that of its place
abbrev pub packed_rank : ℕ → ℕ → ℕ
packed_rank place rank = cond (nat_lt rank OWN_RANK) rank (OWN_RANK + place)

-- what the slot says, at its place
abbrev pub packed_slot : List ℕ → ℕ → Slot → Slot
packed_slot places w s = record {
  owner = s.owner;
  home = place_in places s.home;
  rank = packed_rank (place_in places w) s.rank;
  weight = s.weight;
  scale = s.scale;
  rel = s.rel;
}

-- the slots that are taken are at their places, with what they had, and there are no others
pub record ArePacked (places : List ℕ) (count : ℕ) (old new : Lists) : Type 0 where
  pub rows : new.rows ≡ old.rows
  pub stays : new.stays ≡ old.stays
  pub priorities : new.priorities ≡ old.priorities
  pub slot_count : length new.slots ≡ count
  pub standing_count : length new.standings ≡ count
  pub row_count : length new.matrix ≡ count
  pub slots : (w : ℕ) → IsTaken old w → slot_at new (place_in places w) ≡ packed_slot places w (slot_at old w)
  pub standings : (w : ℕ) → IsTaken old w → standing_at new (place_in places w) ≡ standing_at old w
  pub matrix : (w : ℕ) → IsTaken old w → row_at new (place_in places w) ≡ renamed places (row_at old w)
  pub attr_slots : AreRenumbered places old.attr_slots new.attr_slots
  pub row_slots : AreRenumbered places old.row_slots new.row_slots
  pub kept : All IsKeptRow new.matrix
  pub values : All (λ s. IsKept s.value) new.standings
