use Rattle.corner_lines.proofs.LevelRows.LevelLeaves.{left_row_is_multiple}
use Rattle.corner_lines.proofs.levels.left_row_is_multiple.Goals as goal

pub returns : goal.returns
returns c = left_row_is_multiple
