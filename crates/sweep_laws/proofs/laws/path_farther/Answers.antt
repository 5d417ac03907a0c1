use Rattle.sweep_laws.proofs.Farther.{path_farther}
use Rattle.sweep_laws.proofs.laws.path_farther.Goals as goal

pub returns : goal.returns
returns c = path_farther
