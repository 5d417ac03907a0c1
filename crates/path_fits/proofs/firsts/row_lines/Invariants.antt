use Rattle.path_fits.specs.FirstSums.{AreMade}
use Rattle.path_fits.proofs.firsts.row_lines.Given as goal

abbrev pub invariant-loop-r : goal.invariant-loop-r
invariant-loop-r l = AreMade l.p l.r-index l.lines.items
