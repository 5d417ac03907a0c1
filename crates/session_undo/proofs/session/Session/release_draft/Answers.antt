use Rattle.session_undo.proofs.Commands.Drafts.{release-draft}
use Rattle.session_undo.proofs.session.Session.release_draft.Goals as goal

pub returns-clause-made : goal.returns-clause-made
returns-clause-made g c = release-draft c.args.self.now c.args.name.now c.args.word c.in_ok-view.view c.in_ok-view.ensures.held
