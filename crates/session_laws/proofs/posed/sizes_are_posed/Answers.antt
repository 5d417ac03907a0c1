use Rattle.session_laws.proofs.Posing.First.{sizes-posed}
use Rattle.session_laws.proofs.posed.sizes_are_posed.Goals as goal

pub returns : goal.returns
returns c = sizes-posed
