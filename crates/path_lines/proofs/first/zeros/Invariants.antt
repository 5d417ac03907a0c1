use Rattle.std.proofs.Common.{◌≡◌, length, pos, All}
use Rattle.path_lines.proofs.first.zeros.Given as goal

abbrev pub invariant-loop : goal.invariant-loop
invariant-loop l = record {
  count : length l.out.items ≡ l.counter;
  zeros : All (λ z. z ≡ pos 0) l.out.items;
}
