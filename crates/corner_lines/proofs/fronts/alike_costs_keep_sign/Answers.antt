use Rattle.corner_lines.proofs.FrontSigns.{alike_costs_keep_sign}
use Rattle.corner_lines.proofs.fronts.alike_costs_keep_sign.Goals as goal

pub returns : goal.returns
returns c = alike_costs_keep_sign
