use Rattle.corner_lines.proofs.LevelRows.LevelDivided.{divided_row_is_row}
use Rattle.corner_lines.proofs.levels.divided_row_is_row.Goals as goal

pub returns : goal.returns
returns c = divided_row_is_row
