use Rattle.corner_laws.proofs.LevelCosts.LevelSizes.{level_fits}
use Rattle.corner_laws.proofs.levels.level_fits.Goals as goal

pub returns : goal.returns
returns c = level_fits
