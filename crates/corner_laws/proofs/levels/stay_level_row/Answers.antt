use Rattle.corner_laws.proofs.LevelCosts.StayLevels.{stay_level_row}
use Rattle.corner_laws.proofs.levels.stay_level_row.Goals as goal

pub returns : goal.returns
returns c = stay_level_row
