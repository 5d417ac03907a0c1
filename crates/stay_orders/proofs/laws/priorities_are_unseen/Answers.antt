use Rattle.stay_orders.proofs.LevelRows.{levels}
use Rattle.stay_orders.proofs.laws.priorities_are_unseen.Goals as goal

pub returns : goal.returns
returns c = levels
