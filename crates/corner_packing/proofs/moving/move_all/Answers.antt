use Rattle.corner_table.proofs.Corners.HistoryFacts.{alike_same, past_same}
use Rattle.corner_packing.proofs.moving.move_all.Goals as goal

pub returns-clause-before : goal.returns-clause-before
returns-clause-before c = past_same c.args.table.now c.move_lists.new.table c.move_lists.ensures.past

pub returns-clause-alike : goal.returns-clause-alike
returns-clause-alike c = alike_same c.args.table.now c.move_lists.new.table c.move_lists.ensures.past c.requires.alike
