use Rattle.constraint_compile.proofs.Sums.Doubles.{IsRound}
use Rattle.constraint_compile.proofs.line.nonzero.is_zero.Given as goal

abbrev pub invariant-loop-round : goal.invariant-loop-round
invariant-loop-round l = IsRound l.fn.pieces.items l._round l.whole l.rests.items
