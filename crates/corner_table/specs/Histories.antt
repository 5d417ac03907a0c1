-- The lists of a corner at its earlier marks.
use Rattle.std.specs.Prelude.{◌≡◌, ℕ, List, [], ◌∷◌, length}
use Rattle.row_core.specs.Rows.{Term}
use Rattle.problem_core.specs.Layout.{Row}
use Rattle.problem_core.specs.declared.parts.Stay.{Stay}
use Rattle.corner_table.specs.declared.table.Slot.{Slot}
use Rattle.corner_table.specs.declared.table.Standing.{Standing}
use Rattle.corner_table.specs.declared.table.Priority.{Priority}
use Rattle.corner_table.specs.declared.table.Table.{Table}
use Rattle.corner_table.specs.Tables.{Lists}

-- each list has as many earlier versions
pub record AreAlike (t : Table) : Type 0 where
  pub stays : length t.stays.before ≡ length t.rows.before
  pub slots : length t.slots.before ≡ length t.rows.before
  pub standings : length t.standings.before ≡ length t.rows.before
  pub matrix : length t.matrix.before ≡ length t.rows.before
  pub attr_slots : length t.attr_slots.before ≡ length t.rows.before
  pub row_slots : length t.row_slots.before ≡ length t.rows.before
  pub priorities : length t.priorities.before ≡ length t.rows.before

-- the versions of the lists side by side
abbrev pub side_by_side : List (List Row) → List (List Stay) → List (List Slot) → List (List Standing)
    → List (List (List Term)) → List (List ℕ) → List (List ℕ) → List (List Priority) → List Lists
side_by_side [] ss ls vs ms bs ds ps = []
side_by_side (r ∷ rs) [] ls vs ms bs ds ps = []
side_by_side (r ∷ rs) (s ∷ ss) [] vs ms bs ds ps = []
side_by_side (r ∷ rs) (s ∷ ss) (l ∷ ls) [] ms bs ds ps = []
side_by_side (r ∷ rs) (s ∷ ss) (l ∷ ls) (v ∷ vs) [] bs ds ps = []
side_by_side (r ∷ rs) (s ∷ ss) (l ∷ ls) (v ∷ vs) (m ∷ ms) [] ds ps = []
side_by_side (r ∷ rs) (s ∷ ss) (l ∷ ls) (v ∷ vs) (m ∷ ms) (b ∷ bs) [] ps = []
side_by_side (r ∷ rs) (s ∷ ss) (l ∷ ls) (v ∷ vs) (m ∷ ms) (b ∷ bs) (d ∷ ds) [] = []
side_by_side (r ∷ rs) (s ∷ ss) (l ∷ ls) (v ∷ vs) (m ∷ ms) (b ∷ bs) (d ∷ ds) (p ∷ ps) =
    record {
      rows = r;
      stays = s;
      slots = l;
      standings = v;
      matrix = m;
      attr_slots = b;
      row_slots = d;
      priorities = p;
    }
    ∷ side_by_side rs ss ls vs ms bs ds ps

-- the lists at each earlier mark, the newest first
abbrev pub lists_before : Table → List Lists
lists_before t = side_by_side t.rows.before t.stays.before t.slots.before t.standings.before t.matrix.before
    t.attr_slots.before t.row_slots.before t.priorities.before

-- no list's earlier versions have changed
pub record HasSameHistory (old new : Table) : Type 0 where
  pub rows : new.rows.before ≡ old.rows.before
  pub stays : new.stays.before ≡ old.stays.before
  pub slots : new.slots.before ≡ old.slots.before
  pub standings : new.standings.before ≡ old.standings.before
  pub matrix : new.matrix.before ≡ old.matrix.before
  pub attr_slots : new.attr_slots.before ≡ old.attr_slots.before
  pub row_slots : new.row_slots.before ≡ old.row_slots.before
  pub priorities : new.priorities.before ≡ old.priorities.before
