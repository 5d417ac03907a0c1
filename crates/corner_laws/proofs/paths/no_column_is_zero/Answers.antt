use Rattle.corner_laws.proofs.ZeroColumns.{no_zero_column}
use Rattle.corner_laws.proofs.paths.no_column_is_zero.Goals as goal

pub returns : goal.returns
returns c = no_zero_column
