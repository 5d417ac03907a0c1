use Rattle.corner_lines.proofs.FrontSigns.{no_negative_fronts}
use Rattle.corner_lines.proofs.fronts.no_negative_fronts.Goals as goal

pub returns : goal.returns
returns c = no_negative_fronts
