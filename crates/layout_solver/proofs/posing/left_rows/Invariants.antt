use Rattle.std.proofs.Common.{◌≡◌, take}
use Rattle.layout_solver.specs.Removals.{other_rows}
use Rattle.layout_solver.proofs.posing.left_rows.Given as goal

abbrev pub invariant-loop-row : goal.invariant-loop-row
invariant-loop-row l = l.left.items ≡ other_rows l.gone (take l.row-index l.rows)
