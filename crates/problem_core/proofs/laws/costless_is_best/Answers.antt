use Rattle.problem_core.proofs.Best.Agreed.{costless-IsBest}
use Rattle.problem_core.proofs.laws.costless_is_best.Goals as goal

pub returns : goal.returns
returns c = costless-IsBest
