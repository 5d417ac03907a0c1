use Rattle.problem_core.proofs.Best.Targets.{still-IsBest}
use Rattle.problem_core.proofs.laws.best_stays_best.Goals as goal

pub returns : goal.returns
returns c = still-IsBest
