use Rattle.constraint_compile.specs.Coefficients.Sums.{HasFirst}
use Rattle.constraint_compile.proofs.line.row_terms.row_terms.Given as goal

abbrev pub invariant-loop-place : goal.invariant-loop-place
invariant-loop-place l = HasFirst l.attrs l.sum.numbers.items l.place l.out.items
