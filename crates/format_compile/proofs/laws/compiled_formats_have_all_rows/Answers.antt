use Rattle.format_compile.proofs.FormatCauses.{compiled_count}
use Rattle.format_compile.proofs.laws.compiled_formats_have_all_rows.Goals as goal

pub returns : goal.returns
returns c = compiled_count
