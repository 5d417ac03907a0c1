use Rattle.corner_lines.proofs.ProblemChanges.JoinedLines.{old_line}
use Rattle.corner_lines.proofs.joins.equations_hold_with_row.Goals as goal

pub returns : goal.returns
returns c = λ p at r whole quantity own by num den e none. old_line p at r quantity own by num den whole e none
