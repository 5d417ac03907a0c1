use Rattle.corner_lines.proofs.Costs.LevelCosts.{exchanged_cost_is_cost}
use Rattle.corner_lines.proofs.levels.exchanged_cost_is_cost.Goals as goal

pub returns : goal.returns
returns c = exchanged_cost_is_cost
