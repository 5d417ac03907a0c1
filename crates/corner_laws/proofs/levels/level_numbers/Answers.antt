use Rattle.corner_laws.proofs.LevelCosts.LevelNumbers.{level_numbers}
use Rattle.corner_laws.proofs.levels.level_numbers.Goals as goal

pub returns : goal.returns
returns c = level_numbers
