use Rattle.stay_orders.proofs.Corners.{solves, stands}
use Rattle.stay_orders.proofs.laws.order_is_unseen.Goals as goal

pub returns : goal.returns
returns c = λ attrs p at x. (solves attrs p x, stands attrs p at x)
