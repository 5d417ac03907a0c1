use Rattle.corner_lines.proofs.Costs.LevelFits.{small_row_fits}
use Rattle.corner_lines.proofs.levels.small_row_fits.Goals as goal

pub returns : goal.returns
returns c = small_row_fits
