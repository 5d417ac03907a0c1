use Rattle.corner_lines.proofs.LevelRows.LevelLeaves.{shrunk_row_is_row}
use Rattle.corner_lines.proofs.levels.shrunk_row_is_row.Goals as goal

pub returns : goal.returns
returns c = shrunk_row_is_row
