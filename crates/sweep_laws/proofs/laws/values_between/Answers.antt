use Rattle.sweep_laws.proofs.Mixtures.{values_between}
use Rattle.sweep_laws.proofs.laws.values_between.Goals as goal

pub returns : goal.returns
returns c = values_between
