use Rattle.problem_core.proofs.Best.Agreed.{agreed-IsBest}
use Rattle.problem_core.proofs.laws.agreed_is_best.Goals as goal

pub returns : goal.returns
returns c = agreed-IsBest
