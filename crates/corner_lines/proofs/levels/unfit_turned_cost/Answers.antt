use Rattle.corner_lines.proofs.Costs.LevelCosts.{unfit_turned_cost}
use Rattle.corner_lines.proofs.levels.unfit_turned_cost.Goals as goal

pub returns : goal.returns
returns c = unfit_turned_cost
