use Rattle.layout_solver.proofs.Starts.FirstStays.{none_negative}
use Rattle.layout_solver.proofs.starting.fill_by_rows.Goals as goal

pub join_each-requires-clause-values : goal.join_each-requires-clause-values
join_each-requires-clause-values g c = none_negative c.args.c.now.problem c.args.c.now.marks c.show_corner.ensures.kept.corner c.requires.none
