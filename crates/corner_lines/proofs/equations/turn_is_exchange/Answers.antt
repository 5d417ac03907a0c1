use Rattle.corner_lines.proofs.Lines.LineMoves.{turn_is_exchange}
use Rattle.corner_lines.proofs.equations.turn_is_exchange.Goals as goal

pub returns : goal.returns
returns c = turn_is_exchange
