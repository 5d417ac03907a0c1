use Rattle.corner_lines.proofs.ProblemChanges.DroppedAttr.{attr_left_inside, line_none}
use Rattle.corner_lines.proofs.removals.without_attr_keeps_lines.Goals as goal

pub returns : goal.returns
returns c = λ p at attr name side whole corner free inside own by num den e. (attr_left_inside p at attr name side own by num den whole corner free inside e, line_none p at attr name side own by num den whole corner free inside e)
