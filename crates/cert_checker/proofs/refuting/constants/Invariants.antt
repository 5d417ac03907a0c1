use Rattle.std.proofs.Common.{◌≡◌, ◌≤◌, ◌^◌, ◌*◌, ◌/◌, pos, ◌*ℤ◌, unsigned_abs, take}
use Rattle.problem_core.specs.Layout.{sum_of}
use Rattle.cert_checker.specs.Required.{den_at, num_at}
use Rattle.cert_checker.proofs.refuting.constants.Given as goal

abbrev pub invariant-loop-line : goal.invariant-loop-line
invariant-loop-line l = record {
  sum : l.sum ≡ sum_of (λ w. w.times *ℤ (num_at l.fn.p w.at *ℤ pos (l.common / den_at l.fn.p w.at))) (take l.line-index l.weighted);
  room : unsigned_abs l.sum ≤ l.line-index * 2 ^ 114;
}
