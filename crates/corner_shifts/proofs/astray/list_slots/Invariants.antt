use Rattle.corner_table.specs.Tables.{lists_of}
use Rattle.corner_shifts.proofs.AstrayStays.{AreFirstListed}
use Rattle.corner_shifts.proofs.astray.list_slots.Given as goal

abbrev pub invariant-loop-i : goal.invariant-loop-i
invariant-loop-i l = AreFirstListed (lists_of l.table) l.slots l.i l.fn.lines l.lines
