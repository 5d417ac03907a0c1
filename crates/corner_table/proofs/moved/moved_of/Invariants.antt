use Rattle.std.proofs.Common.{take}
use Rattle.corner_table.specs.Moves.{marked_of}
use Rattle.corner_table.specs.Tables.{lists_of}
use Rattle.corner_table.proofs.Readings.MoveFacts.{AreMovedOf}
use Rattle.corner_table.proofs.moved.moved_of.Given as goal

abbrev pub invariant-loop-attr : goal.invariant-loop-attr
invariant-loop-attr l = AreMovedOf (marked_of l.table) (lists_of l.table) (take l.attr-index l.attrs) l.out.items
