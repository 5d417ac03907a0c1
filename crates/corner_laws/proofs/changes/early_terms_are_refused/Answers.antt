use Rattle.corner_laws.proofs.Instances.Examples.{old_terms_of_pair_fit}
use Rattle.corner_laws.proofs.changes.early_terms_are_refused.Goals as goal

pub returns : goal.returns
returns c = old_terms_of_pair_fit
