use Rattle.corner_lines.proofs.ProblemChanges.JoinedUnder.{under_line}
use Rattle.corner_lines.proofs.joins.joined_under_keeps_equations.Goals as goal

pub returns : goal.returns
returns c = λ p at r whole corner quantity own by num den e. under_line p at r quantity own by num den whole corner e
