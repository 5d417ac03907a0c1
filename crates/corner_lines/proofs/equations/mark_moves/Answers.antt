use Rattle.corner_lines.proofs.Lines.LineMoves.{mark_moves}
use Rattle.corner_lines.proofs.equations.mark_moves.Goals as goal

pub returns : goal.returns
returns c = λ p at name inside side to whole corner mark i own by num den ray r e. mark_moves p at name side inside to own by num den ray whole corner mark i r e
