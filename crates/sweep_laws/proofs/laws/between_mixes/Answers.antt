use Rattle.sweep_laws.proofs.Mixtures.{between_mixes}
use Rattle.sweep_laws.proofs.laws.between_mixes.Goals as goal

pub returns : goal.returns
returns c = between_mixes
