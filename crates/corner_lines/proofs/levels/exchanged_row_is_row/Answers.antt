use Rattle.corner_lines.proofs.LevelRows.LevelExchanges.{exchanged_row_is_row}
use Rattle.corner_lines.proofs.levels.exchanged_row_is_row.Goals as goal

pub returns : goal.returns
returns c = exchanged_row_is_row
