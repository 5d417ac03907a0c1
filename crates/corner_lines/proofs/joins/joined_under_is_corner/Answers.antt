use Rattle.corner_lines.proofs.ProblemChanges.JoinedUnder.{under_corner, under_rays}
use Rattle.corner_lines.proofs.joins.joined_under_is_corner.Goals as goal

pub returns-clause-corner : goal.returns-clause-corner
returns-clause-corner c = under_corner

pub returns-clause-rays : goal.returns-clause-rays
returns-clause-rays c = under_rays
