use Rattle.corner_table.specs.Moves.{marked_of}
use Rattle.corner_table.specs.Tables.{lists_of}
use Rattle.corner_table.proofs.Readings.MoveFacts.{all_there}
use Rattle.corner_table.proofs.moved.moved_values.Goals as goal

pub returns : goal.returns
returns c =
    all_there (marked_of c.args.table.now) (lists_of c.args.table.now) c.in_ok-moved.moved.items c.in_ok-places.places.items
    c.requires.then c.requires.now c.requires.others c.in_ok-places.ensures
    (record { moved = c.in_ok-moved.ensures.moved; stayed = rw c.deref.ensures.value at c.in_ok-moved.ensures.stayed })
