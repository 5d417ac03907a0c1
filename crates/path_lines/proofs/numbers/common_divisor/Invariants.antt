use Rattle.std.proofs.Common.{take}
use Rattle.path_lines.proofs.Arithmetic.LowestTerms.{IsDivisorSoFar}
use Rattle.path_lines.proofs.numbers.common_divisor.Given as goal

abbrev pub invariant-loop-number : goal.invariant-loop-number
invariant-loop-number l = IsDivisorSoFar l.fn.own (take l.number-index l.fn.by) l.divisor
