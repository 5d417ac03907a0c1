use Rattle.corner_table.specs.Moves.{marked_of}
use Rattle.corner_table.proofs.Readings.MoveFacts.{no_value_there, value_there}
use Rattle.corner_table.proofs.moved.slot_value_before.Goals as goal

pub returns-in_err-standing : goal.returns-in_err-standing
returns-in_err-standing c =
    rw c.from_residual.ensures
    (no_value_there (marked_of c.args.table.now) c.args.w c.requires.slots c.in_err-standing.ensures.none)

pub returns : goal.returns
returns c =
    value_there (marked_of c.args.table.now) c.args.w c.in_ok-standing.standing.now c.requires.slots c.in_ok-standing.ensures.some
