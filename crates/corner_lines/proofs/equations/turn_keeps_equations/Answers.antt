use Rattle.corner_lines.proofs.Lines.LineExchanges.{line_turns}
use Rattle.corner_lines.proofs.equations.turn_keeps_equations.Goals as goal

pub returns : goal.returns
returns c = λ p at s corner leaves same quantity own by num den e. line_turns p at s quantity own by num den corner leaves same e
