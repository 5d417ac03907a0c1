use Rattle.corner_laws.proofs.Swaps.PrimalChoice.{primal_choice_stays}
use Rattle.corner_laws.proofs.exchanges.primal_choice_stays.Goals as goal

pub returns : goal.returns
returns c = primal_choice_stays
