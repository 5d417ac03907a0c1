use Rattle.std.proofs.Common.{take}
use Rattle.constraint_compile.specs.Coefficients.Pieces.{AreDoubled}
use Rattle.constraint_compile.proofs.line.nonzero.doubled.Given as goal

abbrev pub invariant-loop-piece : goal.invariant-loop-piece
invariant-loop-piece l = AreDoubled (take l.piece-index l.pieces) l.whole l.rests.items
