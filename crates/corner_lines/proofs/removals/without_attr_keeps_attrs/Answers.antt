use Rattle.corner_lines.proofs.ProblemChanges.DroppedAttr.{attr_left_attr, attr_none}
use Rattle.corner_lines.proofs.removals.without_attr_keeps_attrs.Goals as goal

pub returns : goal.returns
returns c = λ p at attr other whole corner free ne own by num den e. (attr_left_attr p at attr other own by num den whole corner free ne e, attr_none p at attr other own by num den whole corner free ne e)
