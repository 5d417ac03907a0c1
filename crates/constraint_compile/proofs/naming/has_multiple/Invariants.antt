use Rattle.std.proofs.Common.{◌≡◌, drop, map}
use Rattle.std.specs.List.{list_any}
use Rattle.std.specs.String.{string_bytes}
use Rattle.compile_parts.specs.Keeps.{part_view}
use Rattle.constraint_compile.specs.Naming.{is_multiple}
use Rattle.constraint_compile.proofs.naming.has_multiple.Given as goal

abbrev pub invariant-loop-step : goal.invariant-loop-step
invariant-loop-step l =
    list_any (λ s. is_multiple l.name (part_view (map string_bytes l.names) s.part)) (drop l.step-index l.steps)
    ≡ list_any (λ s. is_multiple l.name (part_view (map string_bytes l.names) s.part)) l.steps
