use Rattle.sweep_laws.proofs.OneConstant.{constants_are_seen_alike}
use Rattle.sweep_laws.proofs.laws.constants_are_seen_alike.Goals as goal

pub returns : goal.returns
returns c = constants_are_seen_alike
