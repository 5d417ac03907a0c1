use Rattle.corner_lines.proofs.Lines.LineWritings.{line_value, line_writing}
use Rattle.corner_lines.proofs.equations.line_is_written.Goals as goal

pub returns : goal.returns
returns c = λ p at quantity whole corner own by num den e. (line_writing p at quantity own by num den whole e, line_value p at quantity own by num den whole corner e)
