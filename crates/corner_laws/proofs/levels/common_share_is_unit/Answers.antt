use Rattle.corner_laws.proofs.LevelCosts.LevelUnits.{common_share_is_unit}
use Rattle.corner_laws.proofs.levels.common_share_is_unit.Goals as goal

pub returns : goal.returns
returns c = common_share_is_unit
