use Rattle.corner_laws.proofs.Rays.{rays_after}
use Rattle.corner_laws.proofs.exchanges.rays_stay.Goals as goal

pub returns : goal.returns
returns c = rays_after
