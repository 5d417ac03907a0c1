use Rattle.corner_laws.proofs.UnfitWritten.{unfit_is_written}
use Rattle.corner_laws.proofs.corners.unfit_is_written.Goals as goal

pub returns : goal.returns
returns c = unfit_is_written
