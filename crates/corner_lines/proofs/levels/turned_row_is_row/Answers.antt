use Rattle.corner_lines.proofs.LevelRows.LevelExchanges.{turned_row_is_row}
use Rattle.corner_lines.proofs.levels.turned_row_is_row.Goals as goal

pub returns : goal.returns
returns c = turned_row_is_row
