use Rattle.std.proofs.Common.{length, ◌-◌}
use Rattle.claim_text.specs.CutLines.{IsCutPlace}
use Rattle.claim_text.proofs.cut.claim_start.Given as goal

abbrev pub invariant-loop-line : goal.invariant-loop-line
invariant-loop-line l = IsCutPlace l.input l.at l.count

abbrev pub decreases-loop-line : goal.decreases-loop-line
decreases-loop-line l = length l.input - l.at
