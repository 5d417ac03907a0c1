use Rattle.corner_lines.proofs.ProblemChanges.JoinedLines.{last_terms_unfit}
use Rattle.corner_lines.proofs.joins.last_terms_are_unfit.Goals as goal

pub returns : goal.returns
returns c = last_terms_unfit
