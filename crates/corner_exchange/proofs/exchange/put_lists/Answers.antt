use Rattle.std.proofs.Common.{◌∙◌, sym, ap, subst}
use Rattle.corner_table.specs.Kept.{AreSlots}
use Rattle.corner_table.specs.Tables.{Lists, lists_of}
use Rattle.corner_exchange.proofs.Swaps.PutFacts.{change_there, changes_keep, changes_slots, cleared_slots}
use Rattle.corner_exchange.proofs.exchange.put_lists.Goals as goal

pub fill_slot-requires-clause-slots : goal.fill_slot-requires-clause-slots
fill_slot-requires-clause-slots c =
    subst AreSlots (sym c.in_ok-put_changes.ensures.ok) (changes_slots (lists_of c.clear_slot.new.table) c.args.made.changes.items
    (subst AreSlots (sym c.in_ok-clear_slot.ensures.ok) (cleared_slots (lists_of c.args.table.now) c.args.made.pair.leave c.requires.slots)))

pub fill_slot-requires-clause-change : goal.fill_slot-requires-clause-change
fill_slot-requires-clause-change c =
    change_there (lists_of c.args.table.now) (lists_of c.put_changes.new.table) c.args.made.entering
    (ap (λ (t : Lists). t.slots) c.in_ok-put_changes.ensures.ok ∙ changes_keep (lists_of c.clear_slot.new.table) c.args.made.changes.items ∙ ap (λ (t : Lists). t.slots) c.in_ok-clear_slot.ensures.ok)
    c.requires.entering

pub put_changes-requires-clause-slots : goal.put_changes-requires-clause-slots
put_changes-requires-clause-slots c = subst AreSlots (sym c.in_ok-clear_slot.ensures.ok) (cleared_slots (lists_of c.args.table.now) c.args.made.pair.leave c.requires.slots)
