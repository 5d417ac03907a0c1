use Rattle.std.proofs.Common.{◌+◌, ◌-◌, length}
use Rattle.row_core.specs.Walks.{steps}
use Rattle.row_core.proofs.Dividing.{IsDivisorSoFar}
use Rattle.row_core.proofs.divide.common_divisor.Given as goal

abbrev pub invariant-loop-read : goal.invariant-loop-read
invariant-loop-read l = IsDivisorSoFar l.sum l.at l.divisor

abbrev pub decreases-loop-read : goal.decreases-loop-read
decreases-loop-read l = (length l.sum.r.now + (length l.sum.p.now + 1)) - steps l.at
