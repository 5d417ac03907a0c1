use Rattle.session_undo.proofs.Commands.Drafts.{drop-draft}
use Rattle.session_undo.proofs.session.Session.drop_draft.Goals as goal

pub returns-clause-made : goal.returns-clause-made
returns-clause-made g c = drop-draft c.args.self.now c.args.name.now c.in_ok-gone.gone c.in_ok-gone.ensures.going
