use Rattle.std.proofs.Common.{◌≡◌, ◌-◌, length, IfSome, IfNone}
use Rattle.primal_run.specs.Entering.{IsChoice}
use Rattle.primal_run.proofs.entering.pick.Given as goal

abbrev pub invariant-loop-i : goal.invariant-loop-i
invariant-loop-i g l = record {
  problem : l.c.problem ≡ l.fn.c.problem;
  marks : l.c.marks ≡ l.fn.c.marks;
  before : l.c.before ≡ l.fn.c.before;
  found : IfSome l.found (IsChoice l.c.problem l.c.marks);
  none : IfNone l.found (l.i ≡ 0);
}

abbrev pub decreases-loop-i : goal.decreases-loop-i
decreases-loop-i g l = length l.c.candidates - l.i
