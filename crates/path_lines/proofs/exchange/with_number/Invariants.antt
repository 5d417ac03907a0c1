use Rattle.std.proofs.Common.{All}
use Rattle.frac_core.specs.Fraction.{IsFitting}
use Rattle.path_lines.specs.Numbers.{flip_sign}
use Rattle.path_lines.proofs.Arithmetic.LowestTerms.{IsReplacedSoFar}
use Rattle.path_lines.proofs.exchange.with_number.Given as goal

abbrev pub invariant-loop-place : goal.invariant-loop-place
invariant-loop-place l = record {
  so_far : IsReplacedSoFar (flip_sign l.fn.is_turned) l.fn.numbers l.fn.at l.fn.number l.out.items l.place;
  fits : All IsFitting l.out.items;
}
