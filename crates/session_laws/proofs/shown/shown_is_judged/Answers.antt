use Rattle.session_laws.proofs.Showing.Judged.{shown-judged}
use Rattle.session_laws.proofs.shown.shown_is_judged.Goals as goal

pub returns : goal.returns
returns c = shown-judged
