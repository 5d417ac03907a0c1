use Rattle.corner_lines.proofs.LevelRows.LevelExchanges.{untouched_row_stays}
use Rattle.corner_lines.proofs.levels.untouched_row_stays.Goals as goal

pub returns : goal.returns
returns c = untouched_row_stays
