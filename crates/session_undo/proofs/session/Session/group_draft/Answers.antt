use Rattle.session_undo.proofs.Commands.Drafts.{group-draft}
use Rattle.session_undo.proofs.session.Session.group_draft.Goals as goal

pub returns-clause-made : goal.returns-clause-made
returns-clause-made g c = group-draft c.args.self.now c.args.group.now c.in_ok-group.group c.in_ok-group.ensures.is c.in_ok-group.ensures.held
