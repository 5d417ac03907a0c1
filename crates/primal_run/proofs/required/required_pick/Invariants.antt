use Rattle.std.proofs.Common.{take, All, IfSome, IfNone}
use Rattle.primal_run.specs.Entering.{HasNoRequired, IsRequired}
use Rattle.primal_run.proofs.required.required_pick.Given as goal

abbrev pub invariant-loop-i : goal.invariant-loop-i
invariant-loop-i g l = record {
  found : IfSome l.found (λ f. IsRequired l.c.problem l.c.marks f.mark);
  none : IfNone l.found (All (HasNoRequired l.c.problem l.c.marks) (take l.i l.c.candidates));
}
