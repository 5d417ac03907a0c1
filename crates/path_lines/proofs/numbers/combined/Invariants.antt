use Rattle.std.proofs.Common.{ℕ, ◌≡◌, ◌<◌, ◌+ℤ◌, ◌*ℤ◌, length}
use Rattle.path_lines.specs.Numbers.{number_at}
use Rattle.path_lines.proofs.numbers.combined.Given as goal

abbrev pub invariant-loop-at : goal.invariant-loop-at
invariant-loop-at l = record {
  count : length l.out.items ≡ l.at;
  each : (q : ℕ) → q < l.at → number_at l.out.items q ≡ l.k *ℤ number_at l.left q +ℤ l.m *ℤ number_at l.right q;
}
