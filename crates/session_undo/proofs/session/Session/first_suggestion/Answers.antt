use Rattle.std.proofs.Common.{refl}
use Rattle.session_undo.proofs.session.Session.first_suggestion.Goals as goal

pub returns-clause-made : goal.returns-clause-made
returns-clause-made g c = record { view_is = refl; word = refl; constant = c.in-Some.ensures.constant; small = c.in-Some.ensures.small }
