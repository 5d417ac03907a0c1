use Rattle.corner_table.specs.Moves.{marked_of}
use Rattle.corner_table.proofs.Readings.MoveFacts.{none_listed}
use Rattle.corner_table.proofs.moved.push_then.Goals as goal

pub returns-in-None-clause-listed : goal.returns-in-None-clause-listed
returns-in-None-clause-listed c = none_listed (marked_of c.args.table.now) c.args.out.now.items c.args.w c.in-None.ensures.none
