use Rattle.corner_ends.proofs.Marks.{some_maps}
use Rattle.dual_run.specs.Turning.{IsLeave, IsNext}
use Rattle.dual_run.proofs.Lows.{may_leave}
use Rattle.dual_run.proofs.restoring.next.Goals as goal

pub conflict_stop-requires-clause-above : goal.conflict_stop-requires-clause-above
conflict_stop-requires-clause-above g c = c.is_costly.ensures.yes c.if-is_costly.true

pub returns-clause-leaves : goal.returns-clause-leaves
returns-clause-leaves g c =
    some_maps c.leaving.result (IsLeave c.args.c.now.problem c.args.c.now.marks) (IsNext c.args.c.now.problem c.args.c.now.marks)
    (λ f h. record { may = may_leave c.args.c.now.problem c.args.c.now.marks f.mark c.show_corner.ensures.kept (c.is_costly.ensures.no c.if-is_costly.false) h.low; turns = h.turns }) c.leaving.ensures.some
