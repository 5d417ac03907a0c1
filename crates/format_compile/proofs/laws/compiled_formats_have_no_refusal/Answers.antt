use Rattle.format_compile.proofs.FormatCauses.{compiled_refused}
use Rattle.format_compile.proofs.laws.compiled_formats_have_no_refusal.Goals as goal

pub returns : goal.returns
returns c = compiled_refused
