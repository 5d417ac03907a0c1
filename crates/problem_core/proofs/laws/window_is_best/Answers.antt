use Rattle.problem_core.proofs.Best.WindowRows.{window-IsBest}
use Rattle.problem_core.proofs.laws.window_is_best.Goals as goal

pub returns : goal.returns
returns c = window-IsBest
