use Rattle.std.proofs.Common.{◌≡◌, ℕ, ◌<◌, ◌≤◌, ◌^◌, ◌*ℤ◌, pos, length, All, unsigned_abs}
use Rattle.constraint_compile.specs.Coefficients.Sums.{attr_at, number_at, with_share_number}
use Rattle.constraint_compile.proofs.line.sums.whole_numbers.Given as goal

abbrev pub invariant-loop-place : goal.invariant-loop-place
invariant-loop-place l = record {
  long : length l.out.items ≡ l.place;
  each : (i : ℕ) → i < l.place → pos 2 *ℤ number_at l.out.items i ≡ with_share_number (number_at l.numbers i) 1 l.share (attr_at l.attrs i);
  small : All (λ z. unsigned_abs z ≤ 2 ^ 30) l.out.items;
}
