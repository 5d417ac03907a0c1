use Rattle.corner_lines.proofs.FrontSigns.{no_front_is_not}
use Rattle.corner_lines.proofs.fronts.no_front_is_not.Goals as goal

pub returns : goal.returns
returns c = no_front_is_not
