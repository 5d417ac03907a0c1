use Rattle.session_laws.proofs.Posing.Posed.{one-posed}
use Rattle.session_laws.proofs.posed.one_problem_is_posed.Goals as goal

pub returns : goal.returns
returns c = one-posed
