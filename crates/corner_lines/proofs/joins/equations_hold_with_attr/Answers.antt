use Rattle.corner_lines.proofs.ProblemChanges.NewStays.{old_line}
use Rattle.corner_lines.proofs.joins.equations_hold_with_attr.Goals as goal

pub returns : goal.returns
returns c = old_line
