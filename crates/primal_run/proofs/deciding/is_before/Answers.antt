use Rattle.corner_view.proofs.Facts.{mark_named}
use Rattle.primal_run.proofs.deciding.is_before.Goals as goal

pub is_line_before-requires-clause-f : goal.is_line_before-requires-clause-f
is_line_before-requires-clause-f g c = mark_named c.args.c.now.problem c.args.f c.requires.f

pub is_line_before-requires-clause-g : goal.is_line_before-requires-clause-g
is_line_before-requires-clause-g g c = mark_named c.args.c.now.problem c.args.g c.requires.g

pub is_line_before-requires-2-clause-f : goal.is_line_before-requires-2-clause-f
is_line_before-requires-2-clause-f g c = mark_named c.args.c.now.problem c.args.g c.requires.g

pub is_line_before-requires-2-clause-g : goal.is_line_before-requires-2-clause-g
is_line_before-requires-2-clause-g g c = mark_named c.args.c.now.problem c.args.f c.requires.f
