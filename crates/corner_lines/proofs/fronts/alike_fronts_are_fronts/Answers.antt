use Rattle.corner_lines.proofs.FrontSigns.{alike_fronts_are_fronts}
use Rattle.corner_lines.proofs.fronts.alike_fronts_are_fronts.Goals as goal

pub returns : goal.returns
returns c = alike_fronts_are_fronts
