use Rattle.problem_core.proofs.Best.Additions.{same-IsBest}
use Rattle.problem_core.proofs.laws.same_is_best.Goals as goal

pub returns : goal.returns
returns c = same-IsBest
