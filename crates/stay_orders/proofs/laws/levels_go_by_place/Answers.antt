use Rattle.std.proofs.Common.{refl}
use Rattle.stay_orders.proofs.laws.levels_go_by_place.Goals as goal

pub returns : goal.returns
returns c = record { kept = refl; named = refl }
