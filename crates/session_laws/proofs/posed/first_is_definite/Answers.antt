use Rattle.session_laws.proofs.Posing.First.{first-definite}
use Rattle.session_laws.proofs.posed.first_is_definite.Goals as goal

pub returns : goal.returns
returns c = first-definite
