use Rattle.std.proofs.Common.{◌≡◌, List, ℕ, length}
use Rattle.version_lists.specs.Indexes.{IsColumnOf}
use Rattle.corner_table.specs.Histories.{AreAlike, lists_before}
use Rattle.corner_table.specs.Tables.{lists_of}
use Rattle.corner_shifts.proofs.Shifts.GrownLists.{AreFirstGrown}
use Rattle.corner_shifts.proofs.shifting.grow_outside.Given as goal

abbrev pub invariant-loop-i : goal.invariant-loop-i
invariant-loop-i l = record {
  grown : (slots : List ℕ) → IsColumnOf l.fn.table.matrix.rows l.fn.line slots
      → (length slots ≡ l.count) × AreFirstGrown l.i (lists_of l.fn.table) l.fn.line l.fn.more slots (lists_of l.table);
  before : lists_before l.table ≡ lists_before l.fn.table;
  alike : AreAlike l.fn.table → AreAlike l.table;
}
