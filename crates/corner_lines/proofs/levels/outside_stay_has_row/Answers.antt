use Rattle.corner_lines.proofs.LevelRows.StayRows.{outside_stay_has_row}
use Rattle.corner_lines.proofs.levels.outside_stay_has_row.Goals as goal

pub returns : goal.returns
returns c = outside_stay_has_row
