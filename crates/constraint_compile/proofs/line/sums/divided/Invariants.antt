use Rattle.std.proofs.Common.{◌≡◌, ℕ, ◌<◌, ◌≤◌, ◌^◌, ◌*ℤ◌, length, All, unsigned_abs}
use Rattle.constraint_compile.specs.Coefficients.Sums.{number_at}
use Rattle.constraint_compile.proofs.line.sums.divided.Given as goal

abbrev pub invariant-loop-number : goal.invariant-loop-number
invariant-loop-number l = record {
  long : length l.out.items ≡ l.number-index;
  each : (i : ℕ) → i < l.number-index → l.divisor *ℤ number_at l.out.items i ≡ number_at l.wide i;
  small : All (λ z. unsigned_abs z ≤ 2 ^ 30) l.out.items;
}
