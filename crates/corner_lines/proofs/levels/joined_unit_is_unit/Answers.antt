use Rattle.corner_lines.proofs.LevelRows.LevelJoins.{joined_unit_is_unit}
use Rattle.corner_lines.proofs.levels.joined_unit_is_unit.Goals as goal

pub returns : goal.returns
returns c = joined_unit_is_unit
