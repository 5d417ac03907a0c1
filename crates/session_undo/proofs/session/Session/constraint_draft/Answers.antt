use Rattle.script_text.specs.View.{linear_view}
use Rattle.session_undo.proofs.Commands.Drafts.{constraint-draft}
use Rattle.session_undo.proofs.session.Session.constraint_draft.Goals as goal

pub returns-clause-made : goal.returns-clause-made
returns-clause-made g c =
    let (compiled, is, made) = c.in_ok-new.ensures.made in
    constraint-draft c.args.self.now c.show_limits.ensures c.args.group.now (linear_view c.args.line.now) compiled c.in_ok-new.new is made
