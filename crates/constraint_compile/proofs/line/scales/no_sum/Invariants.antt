use Rattle.std.proofs.Common.{◌≡◌, length, pos, All}
use Rattle.constraint_compile.proofs.line.scales.no_sum.Given as goal

abbrev pub invariant-loop : goal.invariant-loop
invariant-loop l = record { long : length l.numbers.items ≡ l.index; zero : All (λ z. z ≡ pos 0) l.numbers.items }
