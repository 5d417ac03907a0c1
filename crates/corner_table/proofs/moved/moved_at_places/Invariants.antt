use Rattle.std.proofs.Common.{take}
use Rattle.corner_table.specs.Moves.{marked_of}
use Rattle.corner_table.specs.Tables.{lists_of}
use Rattle.corner_table.proofs.Readings.MoveFacts.{AreMovedAt}
use Rattle.corner_table.proofs.moved.moved_at_places.Given as goal

abbrev pub invariant-loop-w : goal.invariant-loop-w
invariant-loop-w l = AreMovedAt (marked_of l.table) (lists_of l.table) l.out.items (take l.w-index l.places)
