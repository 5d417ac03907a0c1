use Rattle.corner_lines.proofs.LevelRows.LevelJoins.{empty_level_has_row}
use Rattle.corner_lines.proofs.levels.empty_level_has_row.Goals as goal

pub returns : goal.returns
returns c = empty_level_has_row
