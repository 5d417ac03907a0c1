use Rattle.corner_lines.proofs.Costs.LevelJoinCosts.{left_cost_is_cost}
use Rattle.corner_lines.proofs.levels.left_cost_is_cost.Goals as goal

pub returns : goal.returns
returns c = left_cost_is_cost
