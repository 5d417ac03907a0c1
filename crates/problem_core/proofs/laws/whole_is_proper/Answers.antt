use Rattle.problem_core.proofs.Wholes.{whole-IsProper}
use Rattle.problem_core.proofs.laws.whole_is_proper.Goals as goal

pub returns : goal.returns
returns c = whole-IsProper
