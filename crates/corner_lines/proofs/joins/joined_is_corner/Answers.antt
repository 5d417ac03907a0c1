use Rattle.corner_lines.proofs.ProblemChanges.JoinedRows.{joined_corner, joined_rays}
use Rattle.corner_lines.proofs.joins.joined_is_corner.Goals as goal

pub returns-clause-corner : goal.returns-clause-corner
returns-clause-corner c = joined_corner

pub returns-clause-rays : goal.returns-clause-rays
returns-clause-rays c = joined_rays
