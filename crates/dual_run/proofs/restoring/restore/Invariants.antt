use Rattle.std.proofs.Common.{◌≡◌, ◌≤◌, ◌-◌, true, length}
use Rattle.dual_run.specs.Leaving.{AreLowLines}
use Rattle.corner_ends.specs.Trails.{IsTrailOf}
use Rattle.dual_run.proofs.restoring.restore.Given as goal

abbrev pub invariant-loop-low : goal.invariant-loop-low
invariant-loop-low g l = record {
  problem : l.c.problem ≡ l.fn.c.problem;
  before : l.c.before ≡ l.fn.c.before;
  trail : IsTrailOf true l.c.problem l.fn.c.marks l.trail l.c.marks;
  low : AreLowLines l.c.problem l.c.marks l.low.items;
  few : length l.trail.swaps ≤ l.budget;
}

abbrev pub decreases-loop-low : goal.decreases-loop-low
decreases-loop-low g l = l.budget - length l.trail.swaps
