use Rattle.corner_lines.proofs.Lines.LineMoves.{line_moves}
use Rattle.corner_lines.proofs.equations.line_moves.Goals as goal

pub returns : goal.returns
returns c = λ p at name side c whole corner mark own by num den ray r e. line_moves p at name side c own by num den ray whole corner mark r e
