use Rattle.corner_lines.proofs.ProblemChanges.DroppedAttr.{stay-out}
use Rattle.corner_lines.proofs.removals.free_stay_is_outside.Goals as goal

pub returns : goal.returns
returns c = stay-out
