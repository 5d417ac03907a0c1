use Rattle.std.proofs.Common.{◌≡◌, ℕ, ◌*◌, ◌^◌, ◌≤◌, ◌*ℤ◌, unsigned_abs, take}
use Rattle.problem_core.specs.Layout.{coefficient, sum_of}
use Rattle.cert_checker.specs.LineSums.{sum_at, form_at}
use Rattle.cert_checker.proofs.sums.cancel.Given as goal

abbrev pub invariant-loop-line : goal.invariant-loop-line
invariant-loop-line l = record {
  sums : (v : ℕ) → sum_at l.sums v ≡ sum_of (λ w. w.times *ℤ coefficient v (form_at l.fn.p w.at)) (take l.line-index l.weighted);
  room : (v : ℕ) → unsigned_abs (sum_at l.sums v) ≤ l.line-index * 2 ^ 89;
}
