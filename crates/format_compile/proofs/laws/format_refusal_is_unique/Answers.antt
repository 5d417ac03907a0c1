use Rattle.format_compile.proofs.FormatCauses.{refused_once}
use Rattle.format_compile.proofs.laws.format_refusal_is_unique.Goals as goal

pub returns : goal.returns
returns c = refused_once
