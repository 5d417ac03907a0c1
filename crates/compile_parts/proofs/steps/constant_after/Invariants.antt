use Rattle.std.proofs.Common.{map}
use Rattle.std.specs.String.{string_bytes}
use Rattle.compile_parts.specs.Keeps.{steps_view}
use Rattle.compile_parts.proofs.Constants.{IsAfter}
use Rattle.compile_parts.proofs.steps.constant_after.Given as goal

abbrev pub invariant-loop-step : goal.invariant-loop-step
invariant-loop-step l = IsAfter l.metrics (steps_view (map string_bytes l.names) l.steps) l.step-index l.now.scale l.now.constant
