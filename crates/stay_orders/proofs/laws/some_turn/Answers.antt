use Rattle.std.proofs.Common.{refl}
use Rattle.stay_orders.proofs.laws.some_turn.Goals as goal

pub returns : goal.returns
returns c = record { before = refl; turned = refl; other = refl; behind = refl }
