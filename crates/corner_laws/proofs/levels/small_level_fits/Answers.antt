use Rattle.corner_laws.proofs.LevelCosts.LevelSmall.{small_level_fits}
use Rattle.corner_laws.proofs.levels.small_level_fits.Goals as goal

pub returns : goal.returns
returns c = small_level_fits
