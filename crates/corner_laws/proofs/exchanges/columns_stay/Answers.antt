use Rattle.corner_laws.proofs.Swaps.ColumnsStay.{columns_stay}
use Rattle.corner_laws.proofs.exchanges.columns_stay.Goals as goal

pub returns : goal.returns
returns c = columns_stay
