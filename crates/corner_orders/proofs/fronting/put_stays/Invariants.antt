use Rattle.std.proofs.Common.{◌≡◌, ◌++◌, drop, take}
use Rattle.corner_table.specs.Histories.{HasSameHistory}
use Rattle.corner_table.specs.Tables.{lists_of}
use Rattle.corner_orders.specs.Fronted.{with_order}
use Rattle.corner_orders.proofs.fronting.put_stays.Given as goal

-- those that were put, and those that stand behind them still
abbrev pub invariant-loop-i : goal.invariant-loop-i
invariant-loop-i l = record {
  past : HasSameHistory l.fn.table l.table;
  lists : lists_of l.table ≡ with_order (take l.i l.fn.order ++ drop l.i l.fn.table.stays.items) (lists_of l.fn.table);
}
