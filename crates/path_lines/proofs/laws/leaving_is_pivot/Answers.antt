use Rattle.path_lines.proofs.Exchanges.CarriedSums.{leaving_is_pivot}
use Rattle.path_lines.proofs.laws.leaving_is_pivot.Goals as goal

pub returns : goal.returns
returns c = leaving_is_pivot
