use Rattle.corner_lines.proofs.ProblemChanges.ShiftedCorner.{shift_corner}
use Rattle.corner_lines.proofs.ProblemChanges.Shifted.{shift_rays}
use Rattle.corner_lines.proofs.shifts.shifted_is_corner.Goals as goal

pub returns-clause-corner : goal.returns-clause-corner
returns-clause-corner c = shift_corner

pub returns-clause-rays : goal.returns-clause-rays
returns-clause-rays c = shift_rays
