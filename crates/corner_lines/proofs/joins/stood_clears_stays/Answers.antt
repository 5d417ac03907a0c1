use Rattle.corner_lines.proofs.ProblemChanges.MovedStays.{stood_stay}
use Rattle.corner_lines.proofs.joins.stood_clears_stays.Goals as goal

pub returns : goal.returns
returns c = λ p at stays attr whole corner h has own by num den e. stood_stay p at stays attr own by num den whole corner h has e
