use Rattle.std.proofs.Common.{length, ◌-◌, ◌<◌, take}
use Rattle.claim_text.specs.CutLines.{EndsBetweenLines}
use Rattle.claim_text.proofs.cut.last_line_start.Given as goal

abbrev pub invariant-loop-at : goal.invariant-loop-at
invariant-loop-at l = record {
  within : l.at < length l.text;
  whole : EndsBetweenLines (take l.at l.text);
}

abbrev pub decreases-loop-at : goal.decreases-loop-at
decreases-loop-at l = length l.text - l.at
