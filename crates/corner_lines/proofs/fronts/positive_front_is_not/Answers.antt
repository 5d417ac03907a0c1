use Rattle.corner_lines.proofs.FrontSigns.{positive_front_is_not}
use Rattle.corner_lines.proofs.fronts.positive_front_is_not.Goals as goal

pub returns : goal.returns
returns c = positive_front_is_not
