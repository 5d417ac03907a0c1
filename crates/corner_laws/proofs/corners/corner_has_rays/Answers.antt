use Rattle.corner_laws.proofs.CornerRays.{corner_has_rays}
use Rattle.corner_laws.proofs.corners.corner_has_rays.Goals as goal

pub returns : goal.returns
returns c = corner_has_rays
