use Rattle.corner_laws.proofs.LevelCosts.LevelExists.{multipliers_exist}
use Rattle.corner_laws.proofs.levels.multipliers_exist.Goals as goal

pub returns : goal.returns
returns c = multipliers_exist
