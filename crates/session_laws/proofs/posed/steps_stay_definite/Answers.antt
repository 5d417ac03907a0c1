use Rattle.session_laws.proofs.Posing.Steps.{stay-definite}
use Rattle.session_laws.proofs.posed.steps_stay_definite.Goals as goal

pub returns : goal.returns
returns c = stay-definite
