use Rattle.stay_orders.proofs.LevelRows.{lines_sum}
use Rattle.stay_orders.proofs.laws.fronted_sums.Goals as goal

pub returns : goal.returns
returns c = lines_sum
