use Rattle.problem_core.proofs.Best.Additions.{added-IsBest}
use Rattle.problem_core.proofs.laws.added_stays_best.Goals as goal

pub returns : goal.returns
returns c = added-IsBest
