use Rattle.corner_lines.proofs.LevelRows.LevelExchanges.{exchanged_row_is_multiple}
use Rattle.corner_lines.proofs.levels.exchanged_row_is_multiple.Goals as goal

pub returns : goal.returns
returns c = exchanged_row_is_multiple
