use Rattle.std.proofs.Common.{subst, sym}
use Rattle.corner_table.specs.Kept.{AreSlots}
use Rattle.corner_table.specs.Tables.{lists_of}
use Rattle.corner_exchange.proofs.Swaps.PutFacts.{row_slots}
use Rattle.corner_exchange.proofs.exchange.clear_slot.Goals as goal

pub put_standing-requires-clause-slots : goal.put_standing-requires-clause-slots
put_standing-requires-clause-slots c = subst AreSlots (sym c.in_ok-put_row.ensures.ok) (row_slots (lists_of c.args.table.now) c.args.w _ c.requires.slots)
