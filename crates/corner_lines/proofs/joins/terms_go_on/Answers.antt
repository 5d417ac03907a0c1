use Rattle.corner_lines.proofs.ProblemChanges.JoinedLines.{goes_on}
use Rattle.corner_lines.proofs.joins.terms_go_on.Goals as goal

pub returns : goal.returns
returns c = goes_on
