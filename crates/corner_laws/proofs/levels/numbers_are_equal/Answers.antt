use Rattle.corner_laws.proofs.LevelCosts.Equal.{numbers_are_equal}
use Rattle.corner_laws.proofs.levels.numbers_are_equal.Goals as goal

pub returns : goal.returns
returns c = numbers_are_equal
