use Rattle.std.proofs.Common.{◌≡◌, ◌≤◌, length, IfSome, IfNone}
use Rattle.dual_run.specs.Leaving.{AreLowLines}
use Rattle.dual_run.specs.FoundLows.{IsFoundLow}
use Rattle.dual_run.proofs.leaving.strongest.Given as goal

abbrev pub invariant-loop-at : goal.invariant-loop-at
invariant-loop-at g l = record {
  low : AreLowLines l.c.problem l.c.marks l.low.items;
  within : l.at ≤ length l.low.items;
  some : IfSome l.best (IsFoundLow l.c.problem l.c.marks);
  none : IfNone l.best (length l.low.items ≡ l.at);
}

abbrev pub decreases-loop-at : goal.decreases-loop-at
decreases-loop-at g l = l.at
