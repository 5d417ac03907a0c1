use Rattle.std.proofs.Common.{take, map, All}
use Rattle.problem_core.specs.Kept.{IsRow}
use Rattle.constraint_compile.specs.Compiled.{AreRowsNow}
use Rattle.constraint_compile.specs.Inside.{form_view}
use Rattle.constraint_compile.proofs.rows.rows_of.Given as goal

abbrev pub invariant-loop-form : goal.invariant-loop-form
invariant-loop-form l = record {
  now : AreRowsNow l.metrics (map form_view (take l.form-index l.forms)) l.rows.items;
  each : All IsRow l.rows.items;
}
