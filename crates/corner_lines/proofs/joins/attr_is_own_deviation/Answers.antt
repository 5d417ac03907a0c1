use Rattle.corner_lines.proofs.ProblemChanges.NewStays.{attr_line}
use Rattle.corner_lines.proofs.joins.attr_is_own_deviation.Goals as goal

pub returns : goal.returns
returns c = λ p at attr target whole number fresh above corner by one none. attr_line p at attr target by whole number fresh above corner one none
