use Rattle.corner_lines.proofs.Costs.LevelFits.{fitting_row_has_writing}
use Rattle.corner_lines.proofs.levels.fitting_row_has_writing.Goals as goal

pub returns : goal.returns
returns c = fitting_row_has_writing
