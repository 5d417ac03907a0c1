use Rattle.corner_lines.proofs.ProblemChanges.JoinedLines.{no_terms}
use Rattle.corner_lines.proofs.joins.no_terms_are_zero.Goals as goal

pub returns : goal.returns
returns c = no_terms
