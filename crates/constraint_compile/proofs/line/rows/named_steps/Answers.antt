use Rattle.std.proofs.Common.{length, map}
use Rattle.std.specs.String.{string_bytes}
use Rattle.compile_parts.specs.Addends.{addends_view}
use Rattle.constraint_compile.proofs.Lines.{code_steps, scales_kept}
use Rattle.constraint_compile.proofs.line.rows.named_steps.Goals as goal

pub returns-clause-kept : goal.returns-clause-kept
returns-clause-kept c = scales_kept (addends_view c.args.added.now) c.in_ok-steps.steps.items c.args.scales.now (length c.args.added.now) c.requires.scales c.in_ok-steps.ensures.scales

pub returns-clause-steps : goal.returns-clause-steps
returns-clause-steps c = λ views terms of. code_steps views terms c.args.added.now (map string_bytes c.in_ok-names.names.items) c.in_ok-steps.steps.items c.args.scales.now of c.requires.scales c.in_ok-steps.ensures.long c.in_ok-steps.ensures.scales (c.in_ok-steps.ensures.parts (map string_bytes c.in_ok-names.names.items) c.in_ok-names.ensures)
