use Rattle.conflict_core.proofs.CoreLaws.{proper_parts_are_solvable}
use Rattle.conflict_core.proofs.laws.proper_parts_are_solvable.Goals as goal

pub returns : goal.returns
returns c = proper_parts_are_solvable
