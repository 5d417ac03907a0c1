use Rattle.corner_lines.proofs.Costs.LevelFits.{unfit_multiple_has_no_writing}
use Rattle.corner_lines.proofs.levels.unfit_multiple_has_no_writing.Goals as goal

pub returns : goal.returns
returns c = unfit_multiple_has_no_writing
