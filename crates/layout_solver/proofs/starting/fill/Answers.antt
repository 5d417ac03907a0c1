use Rattle.std.proofs.Common.{List, ◌++◌, sym, subst}
use Rattle.problem_core.specs.Layout.{Row}
use Rattle.problem_core.specs.Kept.{IsWhole}
use Rattle.layout_solver.specs.Starts.{as_problem}
use Rattle.layout_solver.proofs.Starts.FirstStays.{none_negative}
use Rattle.layout_solver.proofs.starting.fill.Goals as goal

pub join-requires-clause-whole : goal.join-requires-clause-whole
join-requires-clause-whole g c = subst (λ (rs : List Row). IsWhole (as_problem (rs ++ c.args.rows.now) c.args.c.now.problem.stays)) (sym c.requires.new) c.requires.whole

pub join-requires-clause-values : goal.join-requires-clause-values
join-requires-clause-values g c = none_negative c.args.c.now.problem c.args.c.now.marks c.show_corner.ensures.kept.corner c.requires.none
