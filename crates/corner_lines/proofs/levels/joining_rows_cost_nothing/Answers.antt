use Rattle.corner_lines.proofs.Costs.LevelJoinCosts.{joining_rows_cost_nothing}
use Rattle.corner_lines.proofs.levels.joining_rows_cost_nothing.Goals as goal

pub returns : goal.returns
returns c = joining_rows_cost_nothing
