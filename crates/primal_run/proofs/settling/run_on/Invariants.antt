use Rattle.std.proofs.Common.{◌≡◌, ◌≤◌, ◌-◌, false, length}
use Rattle.primal_run.specs.Entering.{MayEnter}
use Rattle.corner_ends.specs.Trails.{IsTrailOf}
use Rattle.primal_run.proofs.settling.run_on.Given as goal

abbrev pub invariant-loop-alloc : goal.invariant-loop-alloc
invariant-loop-alloc g l = record {
  problem : l.c.problem ≡ l.fn.c.problem;
  before : l.c.before ≡ l.fn.c.before;
  trail : IsTrailOf false l.c.problem l.fn.c.marks l.trail l.c.marks;
  enter : MayEnter l.c.problem l.c.marks l.enter;
  few : length l.trail.swaps ≤ l.budget;
}

abbrev pub decreases-loop-alloc : goal.decreases-loop-alloc
decreases-loop-alloc g l = l.budget - length l.trail.swaps
