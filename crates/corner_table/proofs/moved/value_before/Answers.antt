use Rattle.corner_table.specs.Moves.{marked_of}
use Rattle.corner_table.proofs.Readings.MoveFacts.{no_owner, no_slot, value_of_own}
use Rattle.corner_table.proofs.moved.value_before.Goals as goal

pub returns-in_err-slot : goal.returns-in_err-slot
returns-in_err-slot c =
    rw c.from_residual.ensures
    (no_slot (marked_of c.args.table.now) c.args.attr c.was-w.result c.requires.slots c.was-w.ensures c.in_err-slot.ensures.none)

pub returns-then-not-is_attr : goal.returns-then-not-is_attr
returns-then-not-is_attr c =
    no_owner (marked_of c.args.table.now) c.args.attr c.was-w.result c.in_ok-slot.slot.now c.requires.slots c.was-w.ensures
    c.in_ok-slot.ensures.some (c.is_attr.ensures.no c.if-not-is_attr.true)

pub returns : goal.returns
returns c =
    value_of_own (marked_of c.args.table.now) c.args.attr c.was-w.result c.in_ok-slot.slot.now c.slot_value_before.result
    c.in_ok-slot.ensures.some (c.is_attr.ensures.yes c.if-not-is_attr.false) c.slot_value_before.ensures
