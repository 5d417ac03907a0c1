use Rattle.std.proofs.Common.{◌≡◌, map, take}
use Rattle.std.specs.String.{string_bytes}
use Rattle.compile_parts.specs.Addends.{addends_view}
use Rattle.compile_parts.specs.Keeps.{metric_name}
use Rattle.constraint_compile.proofs.line.parts.all_names.Given as goal

abbrev pub invariant-loop-addend : goal.invariant-loop-addend
invariant-loop-addend l = map string_bytes l.names.items ≡ map metric_name (addends_view (take l.addend-index l.added))
