use Rattle.corner_lines.proofs.LevelRows.LevelJoins.{joined_row_is_multiple}
use Rattle.corner_lines.proofs.levels.joined_row_is_multiple.Goals as goal

pub returns : goal.returns
returns c = joined_row_is_multiple
