use Rattle.std.proofs.Common.{◌≤◌}
use Rattle.tell_mend.proofs.bytes.word_start.Given as goal

abbrev pub invariant-loop-place : goal.invariant-loop-place
invariant-loop-place l = l.start ≤ l.place
