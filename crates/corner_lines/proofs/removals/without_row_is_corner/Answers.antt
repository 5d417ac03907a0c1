use Rattle.corner_lines.proofs.ProblemChanges.Dropped.{left_corner, left_rays}
use Rattle.corner_lines.proofs.removals.without_row_is_corner.Goals as goal

pub returns-clause-corner : goal.returns-clause-corner
returns-clause-corner c = left_corner

pub returns-clause-rays : goal.returns-clause-rays
returns-clause-rays c = left_rays
