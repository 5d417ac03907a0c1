use Rattle.std.proofs.Common.{◌≡◌, drop}
use Rattle.compile_parts.specs.Addends.{addends_view}
use Rattle.compile_parts.specs.Keeps.{any_names_metric}
use Rattle.constraint_compile.proofs.line.parts.any_names_metric.Given as goal

abbrev pub invariant-loop-addend : goal.invariant-loop-addend
invariant-loop-addend l = any_names_metric (addends_view (drop l.addend-index l.added)) ≡ any_names_metric (addends_view l.added)
