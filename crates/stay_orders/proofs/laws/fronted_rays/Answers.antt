use Rattle.stay_orders.proofs.LevelRows.{rays}
use Rattle.stay_orders.proofs.laws.fronted_rays.Goals as goal

pub returns : goal.returns
returns c = rays
