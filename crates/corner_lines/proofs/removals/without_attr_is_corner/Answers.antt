use Rattle.corner_lines.proofs.ProblemChanges.DroppedAttr.{attr_left_corner, attr_left_rays}
use Rattle.corner_lines.proofs.removals.without_attr_is_corner.Goals as goal

pub returns-clause-corner : goal.returns-clause-corner
returns-clause-corner c = attr_left_corner

pub returns-clause-rays : goal.returns-clause-rays
returns-clause-rays c = attr_left_rays
