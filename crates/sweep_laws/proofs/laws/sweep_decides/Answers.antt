use Rattle.sweep_laws.proofs.Deciding.{sweep_decides}
use Rattle.sweep_laws.proofs.laws.sweep_decides.Goals as goal

pub returns : goal.returns
returns c = sweep_decides
