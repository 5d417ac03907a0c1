use Rattle.corner_lines.proofs.ProblemChanges.MovedStays.{stood_corner, stood_rays}
use Rattle.corner_lines.proofs.joins.stood_is_corner.Goals as goal

pub returns-clause-corner : goal.returns-clause-corner
returns-clause-corner c = stood_corner

pub returns-clause-rays : goal.returns-clause-rays
returns-clause-rays c = stood_rays
