use Rattle.corner_lines.proofs.LevelRows.LevelRests.{joining_rows_are_free}
use Rattle.corner_lines.proofs.levels.joining_rows_are_free.Goals as goal

pub returns : goal.returns
returns c = joining_rows_are_free
