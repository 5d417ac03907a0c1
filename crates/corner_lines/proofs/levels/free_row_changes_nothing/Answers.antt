use Rattle.corner_lines.proofs.LevelRows.LevelJoins.{free_row_changes_nothing}
use Rattle.corner_lines.proofs.levels.free_row_changes_nothing.Goals as goal

pub returns : goal.returns
returns c = free_row_changes_nothing
