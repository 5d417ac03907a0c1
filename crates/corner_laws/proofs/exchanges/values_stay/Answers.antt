use Rattle.corner_laws.proofs.Swaps.ValuesStay.{values_stay}
use Rattle.corner_laws.proofs.exchanges.values_stay.Goals as goal

pub returns : goal.returns
returns c = values_stay
