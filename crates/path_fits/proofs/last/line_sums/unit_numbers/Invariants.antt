use Rattle.path_fits.specs.Sums.{IsUnitList}
use Rattle.path_fits.proofs.last.line_sums.unit_numbers.Given as goal

abbrev pub invariant-loop-place : goal.invariant-loop-place
invariant-loop-place l = IsUnitList l.place l.fn.at l.out.items
