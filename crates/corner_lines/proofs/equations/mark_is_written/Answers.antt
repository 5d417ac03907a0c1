use Rattle.corner_lines.proofs.Lines.LineWritings.{mark_value, mark_writing}
use Rattle.corner_lines.proofs.equations.mark_is_written.Goals as goal

pub returns : goal.returns
returns c = λ p at name side whole corner inside own by num den e. (mark_writing p at name side own by num den whole corner inside e, mark_value p at name side own by num den whole corner inside e)
