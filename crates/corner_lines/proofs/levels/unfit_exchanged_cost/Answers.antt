use Rattle.corner_lines.proofs.Costs.LevelCosts.{unfit_exchanged_cost}
use Rattle.corner_lines.proofs.levels.unfit_exchanged_cost.Goals as goal

pub returns : goal.returns
returns c = unfit_exchanged_cost
