use Rattle.std.proofs.Common.{◌≡◌, length}
use Rattle.dual_run.proofs.restoring.unlist_all.Given as goal

abbrev pub invariant-loop-c : goal.invariant-loop-c
invariant-loop-c g l = record {
  problem : l.c.problem ≡ l.fn.c.problem;
  marks : l.c.marks ≡ l.fn.c.marks;
  before : l.c.before ≡ l.fn.c.before;
}

abbrev pub decreases-loop-c : goal.decreases-loop-c
decreases-loop-c g l = length l.c.candidates
