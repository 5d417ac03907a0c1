-- How attributes and rows join the lists of a corner.
use Rattle.std.specs.Prelude.{◌≡◌, ◌≢◌, ℕ, zero, suc, ◌+◌, cond, nat_eq, List, [], ◌∷◌, ◌++◌, length}
use Rattle.std.specs.Prelude.{◌≤◌, pos, negsuc, None}
use Rattle.frac_core.specs.Fraction.{Fraction}
use Rattle.version_lists.specs.Numbers.{IsNumbered}
use Rattle.row_core.specs.Rows.{IsKeptRow, Term, coefficient}
use Rattle.problem_core.specs.Layout.{Row, rank_level}
use Rattle.problem_core.specs.Window.{zero_fraction}
use Rattle.problem_core.specs.declared.parts.Rel.TheVariants.{Eq}
use Rattle.problem_core.specs.declared.parts.RowName.TheVariants.{Held, Stay as StayOf}
use Rattle.corner_lines.specs.Joins.{new_stay}
use Rattle.corner_view.specs.declared.types.Owner.TheVariants.{Level as LevelSlot}
use Rattle.corner_view.specs.declared.types.Owner.TheVariants.{Attr as AttrSlot, Line as LineSlot}
use Rattle.corner_table.specs.declared.table.Slot.{Slot}
use Rattle.corner_table.specs.declared.table.Standing.{Standing}
use Rattle.corner_table.specs.declared.table.Table.{Table}
use Rattle.corner_table.specs.declared.table.TheConstants.{MOST_SLOTS, OWN_RANK}
use Rattle.corner_table.specs.Tables.{Lists, row_at}

-- ---- earlier versions

-- no list has an earlier version
pub record HasNoPast (t : Table) : Type 0 where
  pub rows : t.rows.before ≡ []
  pub stays : t.stays.before ≡ []
  pub slots : t.slots.before ≡ []
  pub standings : t.standings.before ≡ []
  pub matrix : t.matrix.before ≡ []
  pub attr_slots : t.attr_slots.before ≡ []
  pub row_slots : t.row_slots.before ≡ []
  pub priorities : t.priorities.before ≡ []

-- ---- slots that are pushed

-- with one slot more
abbrev pub with_slot : Slot → Standing → List Term → Lists → Lists
with_slot slot standing row t = record {
  rows = t.rows;
  stays = t.stays;
  slots = t.slots ++ (slot ∷ []);
  standings = t.standings ++ (standing ∷ []);
  matrix = t.matrix ++ (row ∷ []);
  attr_slots = t.attr_slots;
  row_slots = t.row_slots;
  priorities = t.priorities;
}

-- with one level more, which has no row
abbrev pub with_level : ℕ → Lists → Lists
with_level level t = record {
  rows = t.rows;
  stays = t.stays;
  slots = t.slots
      ++ (record { owner = LevelSlot; home = level; rank = level; weight = pos 1; scale = pos 1; rel = Eq }
      ∷ []);
  standings = t.standings ++ (record { side = None; value = zero_fraction } ∷ []);
  matrix = t.matrix ++ ([] ∷ []);
  attr_slots = t.attr_slots;
  row_slots = t.row_slots;
  priorities = t.priorities ++ (record { unit = pos 1; rows = 0 } ∷ []);
}

-- the first levels alone
abbrev pub levels_below : ℕ → Lists
levels_below zero = record {
  rows = [];
  stays = [];
  slots = [];
  standings = [];
  matrix = [];
  attr_slots = [];
  row_slots = [];
  priorities = [];
}
levels_below (suc n) = with_level n (levels_below n)

-- ---- an attribute joins

-- the row of an attribute's slot, which is the deviation of its stay in the next one
abbrev pub IsStayForm : ℕ → List Term → Type 0
IsStayForm w row = (c : ℕ)
    → coefficient c row ≡ cond (nat_eq w c) (pos 1) (cond (nat_eq (w + 1) c) (negsuc 0) (pos 0))

-- outside, or of what has no side, at 0
abbrev pub at_zero : Standing
at_zero = record { side = None; value = zero_fraction }

-- of an attribute, at this value
abbrev pub at_value : Fraction → Standing
at_value value = record { side = None; value = value }

-- what the slot w says where it is the attribute's
abbrev pub slot_of_attr : ℕ → ℕ → Slot
slot_of_attr attr w = record {
  owner = AttrSlot attr;
  home = w;
  rank = 0;
  weight = pos 1;
  scale = pos 1;
  rel = Eq;
}

-- what the slot w says where it is that of the attribute's stay: its home is itself, and its rank at first
-- its own
abbrev pub slot_of_stay : ℕ → ℕ → Slot
slot_of_stay attr w = record {
  owner = LineSlot (StayOf attr);
  home = w;
  rank = OWN_RANK + w;
  weight = pos 1;
  scale = pos 1;
  rel = Eq;
}

-- what the row's slot says: its home is the slot of the row's level
abbrev pub slot_of_row : Row → Slot
slot_of_row r = record {
  owner = LineSlot (Held r.id);
  home = rank_level r.rank;
  rank = 0;
  weight = pos r.weight;
  scale = pos r.scale;
  rel = r.rel;
}

-- with a new attribute in the next slot, at its target, and its stay behind it, at 0
pub record IsWithAttr (attr : ℕ) (target : Fraction) (old new : Lists) : Type 0 where
  pub room : length old.slots + 2 ≤ MOST_SLOTS
  pub rows : new.rows ≡ old.rows
  pub stays : new.stays ≡ old.stays ++ (new_stay attr target ∷ [])
  pub slots : new.slots ≡ (old.slots ++ (slot_of_attr attr (length old.slots) ∷ []))
      ++ (slot_of_stay attr (length old.slots + 1) ∷ [])
  pub standings : new.standings ≡ (old.standings ++ (at_value target ∷ [])) ++ (at_zero ∷ [])
  pub count : length new.matrix ≡ length old.matrix + 2
  pub own : IsStayForm (length old.slots) (row_at new (length old.slots))
  pub own_kept : IsKeptRow (row_at new (length old.slots))
  pub others : (w : ℕ) → w ≢ length old.slots → row_at new w ≡ row_at old w
  pub attr_slots : IsNumbered attr (length old.slots) old.attr_slots new.attr_slots
  pub row_slots : new.row_slots ≡ old.row_slots
  pub priorities : new.priorities ≡ old.priorities
