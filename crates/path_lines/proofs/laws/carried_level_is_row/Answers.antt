use Rattle.path_lines.proofs.Exchanges.CarriedLevels.{carried_level_is_row}
use Rattle.path_lines.proofs.laws.carried_level_is_row.Goals as goal

pub returns : goal.returns
returns c = carried_level_is_row
