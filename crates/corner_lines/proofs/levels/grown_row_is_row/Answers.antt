use Rattle.corner_lines.proofs.LevelRows.LevelJoins.{grown_row_is_row}
use Rattle.corner_lines.proofs.levels.grown_row_is_row.Goals as goal

pub returns : goal.returns
returns c = grown_row_is_row
