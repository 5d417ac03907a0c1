use Rattle.session_undo.proofs.Commands.Drafts.{metric-draft}
use Rattle.session_undo.proofs.session.Session.metric_draft.Goals as goal

pub returns-clause-made : goal.returns-clause-made
returns-clause-made g c = metric-draft c.args.self.now c.args.name.now c.args.value c.in_ok-new.new c.in_ok-new.ensures.made
