use Rattle.problem_core.proofs.Best.WindowRows.{first-IsBest}
use Rattle.problem_core.proofs.laws.first_scene_is_best.Goals as goal

pub returns : goal.returns
returns c = first-IsBest
