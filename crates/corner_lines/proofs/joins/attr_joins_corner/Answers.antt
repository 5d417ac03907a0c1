use Rattle.corner_lines.proofs.ProblemChanges.NewStays.{attr_corner, attr_rays}
use Rattle.corner_lines.proofs.joins.attr_joins_corner.Goals as goal

pub returns-clause-corner : goal.returns-clause-corner
returns-clause-corner c = attr_corner

pub returns-clause-rays : goal.returns-clause-rays
returns-clause-rays c = attr_rays
