use Rattle.sweep_laws.proofs.Mixtures.{mix_stands}
use Rattle.sweep_laws.proofs.laws.mix_stands.Goals as goal

pub returns : goal.returns
returns c = mix_stands
