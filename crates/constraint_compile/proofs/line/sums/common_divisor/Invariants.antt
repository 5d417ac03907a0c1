use Rattle.std.proofs.Common.{take}
use Rattle.constraint_compile.specs.Coefficients.Sums.{IsDivisor}
use Rattle.constraint_compile.proofs.line.sums.common_divisor.Given as goal

abbrev pub invariant-loop-number : goal.invariant-loop-number
invariant-loop-number l = IsDivisor l.whole (take l.number-index l.numbers) l.divisor
