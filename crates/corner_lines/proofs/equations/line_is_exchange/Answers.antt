use Rattle.corner_lines.proofs.Lines.LineMoves.{line_is_exchange}
use Rattle.corner_lines.proofs.equations.line_is_exchange.Goals as goal

pub returns : goal.returns
returns c = line_is_exchange
