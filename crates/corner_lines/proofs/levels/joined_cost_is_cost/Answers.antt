use Rattle.corner_lines.proofs.Costs.LevelJoinCosts.{joined_cost_is_cost}
use Rattle.corner_lines.proofs.levels.joined_cost_is_cost.Goals as goal

pub returns : goal.returns
returns c = joined_cost_is_cost
