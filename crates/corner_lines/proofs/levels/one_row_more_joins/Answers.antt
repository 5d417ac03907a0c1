use Rattle.corner_lines.proofs.LevelRows.LevelRests.{one_row_more_joins}
use Rattle.corner_lines.proofs.levels.one_row_more_joins.Goals as goal

pub returns : goal.returns
returns c = one_row_more_joins
