use Rattle.std.proofs.Common.{take}
use Rattle.corner_table.specs.Tables.{lists_of}
use Rattle.corner_table.proofs.Readings.MoveFacts.{AreListed}
use Rattle.corner_table.proofs.moved.push_present.Given as goal

abbrev pub invariant-loop-w : goal.invariant-loop-w
invariant-loop-w l = AreListed (lists_of l.table) (lists_of l.table) l.fn.out.items l.out.items (take l.w-index l.places)
