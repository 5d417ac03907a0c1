use Rattle.corner_lines.proofs.LevelRows.LevelRests.{all_rows_have_joined}
use Rattle.corner_lines.proofs.levels.all_rows_have_joined.Goals as goal

pub returns : goal.returns
returns c = all_rows_have_joined
