use Rattle.stay_orders.proofs.Members.{still_there}
use Rattle.stay_orders.proofs.Corners.{corner}
use Rattle.stay_orders.proofs.laws.fronted_is_corner.Goals as goal

pub returns : goal.returns
returns c = λ attrs p at is. corner attrs p at (still_there attrs p) is
