use Rattle.corner_laws.proofs.MarkWritings.Equations.{ray_is_column}
use Rattle.corner_laws.proofs.writings.ray_is_column.Goals as goal

pub returns : goal.returns
returns c = ray_is_column
