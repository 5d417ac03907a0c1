use Rattle.session_undo.proofs.Commands.Drafts.{unsize-draft}
use Rattle.session_undo.proofs.session.Session.unsize_draft.Goals as goal

pub returns-clause-made : goal.returns-clause-made
returns-clause-made g c = unsize-draft c.args.self.now c.args.name.now c.in_ok-view.view c.in_ok-view.ensures.held
