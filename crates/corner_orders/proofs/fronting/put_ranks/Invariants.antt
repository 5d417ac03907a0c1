use Rattle.std.proofs.Common.{◌≡◌, take}
use Rattle.corner_table.specs.declared.table.TheConstants.{LEVELS}
use Rattle.corner_table.specs.Histories.{HasSameHistory}
use Rattle.corner_table.specs.Tables.{lists_of}
use Rattle.corner_orders.specs.Fronted.{with_ranks}
use Rattle.corner_orders.proofs.fronting.put_ranks.Given as goal

abbrev pub invariant-loop-i : goal.invariant-loop-i
invariant-loop-i l = record {
  past : HasSameHistory l.fn.table l.table;
  lists : lists_of l.table ≡ with_ranks LEVELS (take l.i l.fn.slots) (lists_of l.fn.table);
}
