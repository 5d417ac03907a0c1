use Rattle.corner_lines.proofs.Costs.LevelJoinCosts.{unfit_joined_cost}
use Rattle.corner_lines.proofs.levels.unfit_joined_cost.Goals as goal

pub returns : goal.returns
returns c = unfit_joined_cost
