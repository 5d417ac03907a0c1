use Rattle.std.proofs.Common.{◌≡◌, ◌<◌, ◌≤◌, ◌*◌, ◌^◌, All, take, unsigned_abs}
use Rattle.problem_core.specs.Gaps.{scaled_sum, times_common, value_of}
use Rattle.problem_core.proofs.gaps.sum_over.Given as goal

abbrev pub invariant-loop-term : goal.invariant-loop-term
invariant-loop-term l = record {
  sum : l.sum ≡ scaled_sum l.fn.values l.common (take l.term-index l.terms);
  size : unsigned_abs l.sum ≤ l.term-index * 2 ^ 93;
  room : All (λ t. unsigned_abs (times_common (value_of l.fn.values t.attr) l.common) < 2 ^ 62) (take l.term-index l.terms);
}
