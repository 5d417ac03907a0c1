use Rattle.corner_lines.proofs.Costs.LevelTakes.{turning_number_fits}
use Rattle.corner_lines.proofs.levels.turning_number_fits.Goals as goal

pub returns : goal.returns
returns c = turning_number_fits
