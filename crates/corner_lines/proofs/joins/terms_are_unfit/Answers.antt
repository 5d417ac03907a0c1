use Rattle.corner_lines.proofs.ProblemChanges.JoinedLines.{terms_unfit}
use Rattle.corner_lines.proofs.joins.terms_are_unfit.Goals as goal

pub returns : goal.returns
returns c = λ p at r whole j low high none. terms_unfit p at r j whole low high none
