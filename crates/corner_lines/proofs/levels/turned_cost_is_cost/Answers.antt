use Rattle.corner_lines.proofs.Costs.LevelCosts.{turned_cost_is_cost}
use Rattle.corner_lines.proofs.levels.turned_cost_is_cost.Goals as goal

pub returns : goal.returns
returns c = turned_cost_is_cost
