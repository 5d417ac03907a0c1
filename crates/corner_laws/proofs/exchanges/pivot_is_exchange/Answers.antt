use Rattle.corner_laws.proofs.Swaps.Pivots.{pivot_is_exchange}
use Rattle.corner_laws.proofs.exchanges.pivot_is_exchange.Goals as goal

pub returns : goal.returns
returns c = pivot_is_exchange
