use Rattle.conflict_core.proofs.CoreLaws.{core_is_conflict}
use Rattle.conflict_core.proofs.laws.core_is_conflict.Goals as goal

pub returns : goal.returns
returns c = core_is_conflict
