use Rattle.corner_table.specs.Moves.{marked_of}
use Rattle.corner_table.specs.Tables.{lists_of}
use Rattle.corner_table.proofs.Readings.MoveFacts.{all_moved}
use Rattle.corner_table.proofs.moved.moved_by_number.Goals as goal

pub returns : goal.returns
returns c =
    all_moved (marked_of c.args.table.now) (lists_of c.args.table.now) c.in_ok-attrs.attrs.items c.in_ok-moved.moved.items
    (record { moved = c.in_ok-moved.ensures.moved; others = rw c.deref.ensures.value at c.in_ok-moved.ensures.others }) c.in_ok-attrs.ensures
