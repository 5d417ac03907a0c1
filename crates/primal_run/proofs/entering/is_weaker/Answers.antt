use Rattle.std.proofs.Common.{◌+◌, subst}
use Rattle.corner_view.specs.Seen.{IsNamed}
use Rattle.primal_run.specs.Deciding.{stays_before}
use Rattle.primal_run.proofs.TieKeys.{level_there}
use Rattle.primal_run.proofs.entering.is_weaker.Goals as goal

pub is_stronger-requires-clause-a : goal.is_stronger-requires-clause-a
is_stronger-requires-clause-a g c = (1001 + stays_before c.args.c.now.problem.stays c.in-Stay-Stay.y, level_there c.args.c.now.problem c.in-Stay-Stay.y (subst (IsNamed c.args.c.now.problem) c.in-Stay-Stay.is-1 c.requires.b))

pub is_stronger-requires-clause-b : goal.is_stronger-requires-clause-b
is_stronger-requires-clause-b g c = (1001 + stays_before c.args.c.now.problem.stays c.in-Stay-Stay.x, level_there c.args.c.now.problem c.in-Stay-Stay.x (subst (IsNamed c.args.c.now.problem) c.in-Stay-Stay.is-0 c.requires.a))
