use Rattle.corner_lines.proofs.Costs.LevelFits.{unfit_row_has_no_writing}
use Rattle.corner_lines.proofs.levels.unfit_row_has_no_writing.Goals as goal

pub returns : goal.returns
returns c = unfit_row_has_no_writing
