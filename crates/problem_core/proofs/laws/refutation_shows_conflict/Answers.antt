use Rattle.problem_core.proofs.Refutations.{refutation-IsInConflict}
use Rattle.problem_core.proofs.laws.refutation_shows_conflict.Goals as goal

pub returns : goal.returns
returns c = refutation-IsInConflict
