use Rattle.std.proofs.Common.{◌<◌, ◌^◌, ℕ, ℤ, take, All}
use Rattle.corner_ends.specs.Shares.{AreRequiredTimes, IsDivisor, IsGreatest}
use Rattle.corner_ends.proofs.conflicts.common_factor.Given as goal

abbrev pub invariant-loop-row : goal.invariant-loop-row
invariant-loop-row g l = record {
  small : l.factor < 2 ^ 42;
  divides : (y : ℕ → ℤ) → AreRequiredTimes l.c.problem l.c.marks y → All (IsDivisor l.factor y) (take l.row-index l.c.problem.rows);
  greatest : (y : ℕ → ℤ) → AreRequiredTimes l.c.problem l.c.marks y → IsGreatest l.factor y (take l.row-index l.c.problem.rows);
}
