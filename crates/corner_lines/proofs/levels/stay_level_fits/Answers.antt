use Rattle.corner_lines.proofs.Costs.StayFits.{stay_level_fits}
use Rattle.corner_lines.proofs.levels.stay_level_fits.Goals as goal

pub returns : goal.returns
returns c = stay_level_fits
