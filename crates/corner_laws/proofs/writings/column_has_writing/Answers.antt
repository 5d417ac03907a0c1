use Rattle.corner_laws.proofs.MarkWritings.LowestForms.{column_has_writing}
use Rattle.corner_laws.proofs.writings.column_has_writing.Goals as goal

pub returns : goal.returns
returns c = column_has_writing
