use Rattle.corner_laws.proofs.MarkWritings.Directions.{writing_is_row}
use Rattle.corner_laws.proofs.writings.writing_is_row.Goals as goal

pub returns : goal.returns
returns c = writing_is_row
