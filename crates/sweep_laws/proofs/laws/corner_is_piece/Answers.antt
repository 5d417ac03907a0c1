use Rattle.sweep_laws.proofs.Pieces.{corner_is_piece}
use Rattle.sweep_laws.proofs.laws.corner_is_piece.Goals as goal

pub returns : goal.returns
returns c = corner_is_piece
