use Rattle.corner_laws.proofs.Swaps.DualChoice.{dual_choice_stays}
use Rattle.corner_laws.proofs.exchanges.dual_choice_stays.Goals as goal

pub returns : goal.returns
returns c = dual_choice_stays
