use Rattle.std.proofs.Common.{◌+◌, ◌-◌, length}
use Rattle.row_core.specs.Walks.{steps}
use Rattle.row_core.proofs.Gathering.{IsGatheredSoFar}
use Rattle.row_core.proofs.gather.gathered.Given as goal

abbrev pub invariant-loop-read : goal.invariant-loop-read
invariant-loop-read l = IsGatheredSoFar l.sum l.at l.tally.divisor l.tally.most l.entries.items

abbrev pub decreases-loop-read : goal.decreases-loop-read
decreases-loop-read l = (length l.sum.r.now + (length l.sum.p.now + 1)) - steps l.at
