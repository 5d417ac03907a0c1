use Rattle.corner_table.specs.Moves.{marked_of}
use Rattle.corner_table.specs.Tables.{lists_of}
use Rattle.corner_table.proofs.Readings.MoveFacts.{moved_there, stayed_there}
use Rattle.corner_table.proofs.moved.moved_at.Goals as goal

pub returns-then-are_one-clause-none : goal.returns-then-are_one-clause-none
returns-then-are_one-clause-none c =
    stayed_there (marked_of c.args.table.now) (lists_of c.args.table.now) c.args.w c.slot_value_before.result c.slot_value_now.result
    c.requires.others c.slot_value_before.ensures c.slot_value_now.ensures (c.are_one.ensures.yes c.if-are_one.true)

pub returns-clause-moved : goal.returns-clause-moved
returns-clause-moved c =
    moved_there (marked_of c.args.table.now) (lists_of c.args.table.now) c.in_ok-attr.attr c.args.w c.slot_value_before.result
    c.slot_value_now.result c.requires.others c.in_ok-attr.ensures.some c.slot_value_before.ensures c.slot_value_now.ensures
    (c.are_one.ensures.no c.if-are_one.false)
