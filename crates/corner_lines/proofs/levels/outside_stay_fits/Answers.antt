use Rattle.corner_lines.proofs.Costs.StayFits.{outside_stay_fits}
use Rattle.corner_lines.proofs.levels.outside_stay_fits.Goals as goal

pub returns : goal.returns
returns c = outside_stay_fits
