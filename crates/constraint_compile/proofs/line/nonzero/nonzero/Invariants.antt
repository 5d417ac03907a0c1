use Rattle.compile_parts.specs.Addends.{addends_view, sum_of}
use Rattle.constraint_compile.specs.Coefficients.Pieces.{HasFound}
use Rattle.constraint_compile.proofs.line.nonzero.nonzero.Given as goal

abbrev pub invariant-loop-place : goal.invariant-loop-place
invariant-loop-place l = HasFound (sum_of (addends_view l.added)) l.attrs l.place l.found.items
