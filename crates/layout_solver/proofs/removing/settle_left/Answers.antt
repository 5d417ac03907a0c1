use Rattle.std.proofs.Common.{false, subst}
use Rattle.cert_core.specs.Stops.{IsStopOf}
use Rattle.corner_ends.specs.Runs.{FromHere}
use Rattle.layout_solver.proofs.Removals.LeftEnds.{no_conflict}
use Rattle.layout_solver.proofs.removing.settle_left.Goals as goal

pub unreachable-requires : goal.unreachable-requires
unreachable-requires g c =
    no_conflict c.args.c.now.problem c.requires.satisfied.0 _ c.show_corner.ensures.kept.whole c.requires.satisfied.1
    (subst (IsStopOf false c.args.c.now.problem c.args.c.now.problem.rows (FromHere c.args.c.now.marks) c.args.budget) c.in-Err-Conflict.field-0-is c.in-Err-Conflict.ensures.stop)
