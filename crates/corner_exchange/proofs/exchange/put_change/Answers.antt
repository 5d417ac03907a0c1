use Rattle.std.proofs.Common.{subst, sym}
use Rattle.corner_table.specs.Kept.{AreSlots}
use Rattle.corner_table.specs.Tables.{lists_of}
use Rattle.corner_exchange.proofs.Swaps.PutFacts.{standing_slots}
use Rattle.corner_exchange.proofs.exchange.put_change.Goals as goal

pub put_row-requires-clause-slots : goal.put_row-requires-clause-slots
put_row-requires-clause-slots c = subst AreSlots (sym c.in_ok-put_value.ensures.ok) (standing_slots (lists_of c.args.table.now) c.args.change.at _ c.requires.slots)
