use Rattle.problem_core.proofs.Best.Agreed.{errorless-IsBest}
use Rattle.problem_core.proofs.laws.errorless_is_best.Goals as goal

pub returns : goal.returns
returns c = errorless-IsBest
