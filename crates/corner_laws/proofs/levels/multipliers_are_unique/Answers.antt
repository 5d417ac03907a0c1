use Rattle.corner_laws.proofs.LevelCosts.Unique.{multipliers_same}
use Rattle.corner_laws.proofs.levels.multipliers_are_unique.Goals as goal

pub returns : goal.returns
returns c = multipliers_same
