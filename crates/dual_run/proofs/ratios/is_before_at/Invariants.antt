use Rattle.dual_run.proofs.Orders.{AreEqualBefore}
use Rattle.dual_run.proofs.ratios.is_before_at.Given as goal

abbrev pub invariant-loop-level : goal.invariant-loop-level
invariant-loop-level g l = AreEqualBefore l.c.problem l.c.marks l.levels l.a l.b l.level-index
