use Rattle.std.proofs.Common.{◌≡◌, ℕ, ◌<◌, length}
use Rattle.constraint_compile.specs.Coefficients.Sums.{attr_at, number_at, with_share_number}
use Rattle.constraint_compile.proofs.line.sums.widened.Given as goal

abbrev pub invariant-loop-place : goal.invariant-loop-place
invariant-loop-place l = record {
  long : length l.wide.items ≡ l.place;
  each : (i : ℕ) → i < l.place → number_at l.wide.items i ≡ with_share_number (number_at l.sum.numbers.items i) l.sum.scale l.share (attr_at l.attrs i);
}
