use Rattle.corner_laws.proofs.MarkWritings.Directions.{writing_moves}
use Rattle.corner_laws.proofs.writings.writing_moves.Goals as goal

pub returns : goal.returns
returns c = writing_moves
