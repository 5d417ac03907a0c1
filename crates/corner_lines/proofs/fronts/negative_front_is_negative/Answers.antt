use Rattle.corner_lines.proofs.FrontSigns.{negative_front_is_negative}
use Rattle.corner_lines.proofs.fronts.negative_front_is_negative.Goals as goal

pub returns : goal.returns
returns c = negative_front_is_negative
