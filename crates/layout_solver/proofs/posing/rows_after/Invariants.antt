use Rattle.std.proofs.Common.{◌≡◌, All, take}
use Rattle.problem_core.specs.Kept.{IsRow}
use Rattle.layout_solver.specs.Shifts.{shifted}
use Rattle.layout_solver.proofs.posing.rows_after.Given as goal

abbrev pub invariant-loop-row : goal.invariant-loop-row
invariant-loop-row l = record {
  is : l.after.items ≡ shifted l.to (take l.row-index l.rows);
  each : All IsRow l.after.items;
}
