use Rattle.corner_laws.proofs.LevelCosts.Equal.{unfit_from_level}
use Rattle.corner_laws.proofs.levels.unfit_from_level.Goals as goal

pub returns : goal.returns
returns c = unfit_from_level
