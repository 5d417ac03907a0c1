use Rattle.std.proofs.Common.{◌≡◌, length, ◌-◌, ◌^◌, ◌<◌, ◌≤◌}
use Rattle.span_text.specs.Digits.{nonzero_at}
use Rattle.span_text.proofs.numbers.nonzero.Given as goal

abbrev pub invariant-loop-rest : goal.invariant-loop-rest
invariant-loop-rest l = record {
  same : nonzero_at l.room l.value l.rest ≡ nonzero_at 4 0 l.fn.text;
  small : l.value < 10 ^ (4 - l.room);
  few : l.room ≤ 4;
  within : length l.rest ≤ length l.fn.text;
}

abbrev pub decreases-loop-rest : goal.decreases-loop-rest
decreases-loop-rest l = length l.rest
