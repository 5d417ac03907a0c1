use Rattle.corner_laws.proofs.LevelCosts.LevelExists.{level_writing_exists}
use Rattle.corner_laws.proofs.levels.level_writing_exists.Goals as goal

pub returns : goal.returns
returns c = level_writing_exists
