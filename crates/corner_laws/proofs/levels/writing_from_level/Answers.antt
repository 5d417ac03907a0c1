use Rattle.corner_laws.proofs.LevelCosts.Equal.{writing_from_level}
use Rattle.corner_laws.proofs.levels.writing_from_level.Goals as goal

pub returns : goal.returns
returns c = writing_from_level
