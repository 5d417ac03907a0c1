use Rattle.problem_core.proofs.Best.Midpoints.{best-AreSame}
use Rattle.problem_core.proofs.laws.best_is_unique.Goals as goal

pub returns : goal.returns
returns c = best-AreSame
