use Rattle.std.proofs.Common.{◌≤◌, length}
use Rattle.dual_run.specs.Leaving.{AreLowLines}
use Rattle.dual_run.proofs.leaving.turning.Given as goal

abbrev pub invariant-loop-at : goal.invariant-loop-at
invariant-loop-at g l = record {
  low : AreLowLines l.c.problem l.c.marks l.low.items;
  within : l.at ≤ length l.low.items;
}

abbrev pub decreases-loop-at : goal.decreases-loop-at
decreases-loop-at g l = l.at
