use Rattle.std.proofs.Common.{◌≡◌, ℕ, ◌+◌, ◌*◌, ◌^◌, ◌≤◌, ◌+ℤ◌, ◌*ℤ◌, unsigned_abs, take}
use Rattle.problem_core.specs.Layout.{coefficient}
use Rattle.cert_checker.specs.LineSums.{sum_at}
use Rattle.cert_checker.proofs.sums.add_terms.Given as goal

abbrev pub invariant-loop-term : goal.invariant-loop-term
invariant-loop-term l = record {
  sums : (v : ℕ) → sum_at l.sums v ≡ sum_at l.fn.sums v +ℤ l.times *ℤ coefficient v (take l.term-index l.terms);
  room : (v : ℕ) → unsigned_abs (sum_at l.sums v) ≤ unsigned_abs (sum_at l.fn.sums v) + l.term-index * 2 ^ 84;
}
