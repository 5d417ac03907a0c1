use Rattle.stay_orders.proofs.Costs.{costs}
use Rattle.stay_orders.proofs.laws.priorities_cost_the_same.Goals as goal

pub returns : goal.returns
returns c = costs
