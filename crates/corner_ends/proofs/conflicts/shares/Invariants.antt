use Rattle.std.proofs.Common.{ℕ, ℤ, take}
use Rattle.corner_ends.specs.Shares.{AreRequiredTimes, AreShares}
use Rattle.corner_ends.proofs.conflicts.shares.Given as goal

abbrev pub invariant-loop-row : goal.invariant-loop-row
invariant-loop-row g l = (y : ℕ → ℤ) → AreRequiredTimes l.c.problem l.c.marks y → AreShares y l.factor (take l.row-index l.c.problem.rows) l.out.items
