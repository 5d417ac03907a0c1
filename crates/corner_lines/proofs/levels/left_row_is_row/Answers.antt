use Rattle.corner_lines.proofs.LevelRows.LevelLeaves.{left_row_is_row}
use Rattle.corner_lines.proofs.levels.left_row_is_row.Goals as goal

pub returns : goal.returns
returns c = left_row_is_row
