use Rattle.session_undo.proofs.Commands.Drafts.{tree-draft}
use Rattle.session_undo.proofs.session.Session.tree_draft.Goals as goal

pub returns-clause-made : goal.returns-clause-made
returns-clause-made g c =
    tree-draft c.args.self.now c.show_limits.ensures c.args.text.now c.args.start c.in_ok-new.new c.in_ok-new.ensures.made c.in_ok-new.ensures.grown
