use Rattle.session_laws.proofs.Posing.Windows.{sizes-explained}
use Rattle.session_laws.proofs.posed.sizes_are_explained.Goals as goal

pub returns : goal.returns
returns c = sizes-explained
