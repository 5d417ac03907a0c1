use Rattle.conflict_core.proofs.CoreLaws.{found_decides}
use Rattle.conflict_core.proofs.laws.found_decides.Goals as goal

pub returns : goal.returns
returns c = found_decides
