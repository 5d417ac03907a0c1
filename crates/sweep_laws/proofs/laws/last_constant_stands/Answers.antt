use Rattle.sweep_laws.proofs.OneConstant.{last_constant_stands}
use Rattle.sweep_laws.proofs.laws.last_constant_stands.Goals as goal

pub returns : goal.returns
returns c = last_constant_stands
