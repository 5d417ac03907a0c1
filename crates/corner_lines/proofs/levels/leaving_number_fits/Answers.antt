use Rattle.corner_lines.proofs.Costs.LevelTakes.{leaving_number_fits}
use Rattle.corner_lines.proofs.levels.leaving_number_fits.Goals as goal

pub returns : goal.returns
returns c = leaving_number_fits
