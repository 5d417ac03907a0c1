use Rattle.corner_lines.proofs.ProblemChanges.LeftUnfits.{left_is_unfit}
use Rattle.corner_lines.proofs.removals.left_is_unfit.Goals as goal

pub returns : goal.returns
returns c = left_is_unfit
