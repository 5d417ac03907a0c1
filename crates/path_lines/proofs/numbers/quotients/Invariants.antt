use Rattle.std.proofs.Common.{◌≡◌, ◌*ℤ◌, map, take, All}
use Rattle.frac_core.specs.Fraction.{IsFitting}
use Rattle.path_lines.proofs.numbers.quotients.Given as goal

abbrev pub invariant-loop-number : goal.invariant-loop-number
invariant-loop-number l = record {
  same : map (λ z. l.fn.divisor *ℤ z) l.out.items ≡ take l.number-index l.fn.numbers;
  fits : All IsFitting l.out.items;
}
