use Rattle.std.proofs.Common.{◌∙◌, map}
use Rattle.std.specs.String.{string_bytes}
use Rattle.compile_parts.specs.Steps as meant
use Rattle.compile_parts.specs.Keeps.{step_view}
use Rattle.constraint_compile.specs.Naming.{is_multiple}
use Rattle.constraint_compile.proofs.RowConstants.Named.{any_mapped}
use Rattle.constraint_compile.proofs.naming.names_metric.Goals as goal

pub returns : goal.returns
returns c =
    let is = rw (c.deref.ensures.value, c.deref-2.ensures.value) at c.has_multiple.ensures in
    is ∙ any_mapped (step_view (map string_bytes c.args.form.now.names.items)) (λ (s : meant.Step). is_multiple c.args.name.now s.part) c.args.form.now.steps.items
