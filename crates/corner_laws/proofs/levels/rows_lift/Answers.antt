use Rattle.corner_laws.proofs.LevelCosts.LevelLifts.{rows_lift}
use Rattle.corner_laws.proofs.levels.rows_lift.Goals as goal

pub returns : goal.returns
returns c = rows_lift
