-- A row whose mark is inside, or an attribute that no row names, is taken out of the lists.
use Rattle.std.specs.Prelude.{◌≢◌, ◌⊎◌, ℕ, ◌+◌, ◌≤◌, List, [], slice_set, Contains}
use Rattle.version_lists.specs.Lists.{HasColumn}
use Rattle.problem_core.specs.Layout.{Problem}
use Rattle.corner_lines.specs.Removals.{without_attr}
use Rattle.corner_leaving.specs.declared.leaving.Leaver.{Leaver}
use Rattle.corner_leaving.specs.declared.leaving.Left.{Left}
use Rattle.corner_table.specs.declared.table.TheConstants.{LEVELS}
use Rattle.corner_joins.specs.Additions.CostJoins.{IsLineListed}
use Rattle.corner_leaving.specs.Leaving.{problem_left}
use Rattle.corner_table.specs.Tables.{Lists, attr_slot, no_slot, no_standing, problem_of, row_at, standing_at}

-- the slot is of nothing
abbrev pub freed : Lists → ℕ → Lists
freed t w = record {
  rows = t.rows;
  stays = t.stays;
  slots = slice_set t.slots w no_slot;
  standings = slice_set t.standings w no_standing;
  matrix = slice_set t.matrix w [];
  attr_slots = t.attr_slots;
  row_slots = t.row_slots;
  priorities = t.priorities;
}

-- the level has this row, cost and unit, and this many rows
abbrev pub with_left : Lists → Left → Lists
with_left t l = record {
  rows = t.rows;
  stays = t.stays;
  slots = t.slots;
  standings = slice_set t.standings l.change.at
      (record { side = (standing_at t l.change.at).side; value = l.change.value });
  matrix = slice_set t.matrix l.change.at l.change.row;
  attr_slots = t.attr_slots;
  row_slots = t.row_slots;
  priorities = slice_set t.priorities l.change.at (record { unit = l.unit; rows = l.rows });
}

-- with the rows and stays of this problem
abbrev pub with_problem : Problem → Lists → Lists
with_problem p t = record {
  rows = p.rows;
  stays = p.stays;
  slots = t.slots;
  standings = t.standings;
  matrix = t.matrix;
  attr_slots = t.attr_slots;
  row_slots = t.row_slots;
  priorities = t.priorities;
}

-- without the row, of whose level this is left
abbrev pub dropped : Lists → Leaver → Left → Lists
dropped t leaver left = with_problem (problem_left t leaver) (freed (with_left t left) leaver.line)

-- without the attribute and its stay
abbrev pub dropped_attr : Lists → ℕ → Lists
dropped_attr t attr = with_problem (without_attr attr (problem_of t))
    (freed (freed t (attr_slot t attr)) (attr_slot t attr + 1))

-- ---- what is listed

-- the line isn't, and where its inside mark costs, all lines of its row are
pub record AreLeftListed (t : Lists) (line : ℕ) (old new : List ℕ) : Type 0 where
  pub gone : Contains new line → ⊥
  pub keeps : (w : ℕ) → w ≢ line → Contains old w → Contains new w
  pub listed : IsLineListed t new line
  pub others : (w : ℕ) → Contains new w → Contains old w
      ⊎ ((LEVELS ≤ w) × (w ≢ line) × HasColumn w (row_at t line))
