use Rattle.corner_lines.proofs.LevelRows.StayRows.{inside_stay_has_row}
use Rattle.corner_lines.proofs.levels.inside_stay_has_row.Goals as goal

pub returns : goal.returns
returns c = inside_stay_has_row
