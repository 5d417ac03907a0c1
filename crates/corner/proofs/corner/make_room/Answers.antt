use Rattle.corner_table.specs.Tables.{lists_of}
use Rattle.corner_table.proofs.Basics.SmallFacts.{on_ok}
use Rattle.corner.proofs.Additions.PackedJoins.{packed_left}
use Rattle.corner.proofs.corner.make_room.Goals as goal

pub returns-then-is_crowded-clause-left : goal.returns-then-is_crowded-clause-left
returns-then-is_crowded-clause-left c = on_ok c.pack.result _ _ (packed_left (lists_of c.pack.new.table)) c.pack.ensures.packed
