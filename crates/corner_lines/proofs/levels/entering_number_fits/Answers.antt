use Rattle.corner_lines.proofs.Costs.LevelTakes.{entering_number_fits}
use Rattle.corner_lines.proofs.levels.entering_number_fits.Goals as goal

pub returns : goal.returns
returns c = entering_number_fits
