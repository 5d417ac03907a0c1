use Rattle.std.proofs.Common.{◌≡◌, length, ◌+◌, ◌-◌, ◌^◌, ◌<◌, ◌≤◌}
use Rattle.span_text.specs.Tokens.{valued_at}
use Rattle.span_text.proofs.DigitLemmas.{run_at}
use Rattle.span_text.proofs.numbers.digits.Given as goal

abbrev pub invariant-loop-rest : goal.invariant-loop-rest
invariant-loop-rest l = record {
  same : run_at (l.most - l.count) l.value l.count l.rest ≡ valued_at (l.most - 1) l.fn.text;
  small : l.value < 10 ^ l.count;
  few : l.count ≤ l.most;
  within : length l.rest + l.count ≡ length l.fn.text;
}

abbrev pub decreases-loop-rest : goal.decreases-loop-rest
decreases-loop-rest l = length l.rest
