use Rattle.session_laws.proofs.Posing.Questions.{cores-posed}
use Rattle.session_laws.proofs.posed.cores_are_posed.Goals as goal

pub returns : goal.returns
returns c = cores-posed
