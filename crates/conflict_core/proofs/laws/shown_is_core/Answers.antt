use Rattle.conflict_core.proofs.CoreLaws.{shown_is_core}
use Rattle.conflict_core.proofs.laws.shown_is_core.Goals as goal

pub returns : goal.returns
returns c = shown_is_core
