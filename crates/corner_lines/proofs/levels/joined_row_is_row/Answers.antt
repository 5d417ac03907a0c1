use Rattle.corner_lines.proofs.LevelRows.LevelJoins.{joined_row_is_row}
use Rattle.corner_lines.proofs.levels.joined_row_is_row.Goals as goal

pub returns : goal.returns
returns c = joined_row_is_row
