use Rattle.corner_laws.proofs.OtherConstants.{constants_keep_corner}
use Rattle.corner_laws.proofs.corners.constants_keep_corner.Goals as goal

pub returns : goal.returns
returns c = constants_keep_corner
