use Rattle.stay_orders.proofs.Wholes.{whole_there}
use Rattle.stay_orders.proofs.laws.fronted_is_whole.Goals as goal

pub returns : goal.returns
returns c = whole_there
