use Rattle.corner_table.specs.Tables.{lists_of}
use Rattle.corner_writings.proofs.Readings.LowLines.{ListsFirst}
use Rattle.corner_writings.proofs.lows.list_slots.Given as goal

abbrev pub invariant-loop-i : goal.invariant-loop-i
invariant-loop-i l = ListsFirst (lists_of l.table) l.slots l.i l.fn.low.items l.low.items
