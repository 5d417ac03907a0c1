use Rattle.corner_lines.proofs.Costs.StayFits.{inside_stay_costs}
use Rattle.corner_lines.proofs.levels.inside_stay_costs.Goals as goal

pub returns : goal.returns
returns c = inside_stay_costs
