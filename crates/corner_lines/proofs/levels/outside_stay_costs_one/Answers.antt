use Rattle.corner_lines.proofs.Costs.StayFits.{outside_stay_costs_one}
use Rattle.corner_lines.proofs.levels.outside_stay_costs_one.Goals as goal

pub returns : goal.returns
returns c = outside_stay_costs_one
