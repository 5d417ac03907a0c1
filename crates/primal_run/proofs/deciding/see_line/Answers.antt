use Rattle.problem_core.specs.declared.parts.Side.TheVariants.{Under, Over}
use Rattle.corner_view.proofs.Facts.{named_in}
use Rattle.primal_run.proofs.Deciders.{both_seen}
use Rattle.primal_run.proofs.deciding.see_line.Goals as goal

pub see_mark-found-requires-clause-f : goal.see_mark-found-requires-clause-f
see_mark-found-requires-clause-f g c = named_in c.args.c.now.problem c.args.row Under c.requires.row

pub see_mark-requires-clause-f : goal.see_mark-requires-clause-f
see_mark-requires-clause-f g c = named_in c.args.c.now.problem c.args.row Over c.requires.row

pub returns-clause-seen : goal.returns-clause-seen
returns-clause-seen g c = both_seen c.args.c.now c.args.trail.now c.args.tie c.see_mark-found.result c.see_mark.result c.args.row c.see_mark.ensures.later c.see_mark-found.ensures.seen c.see_mark.ensures.seen
