use Rattle.vfl_text.specs.View.{meaning}
use Rattle.session_undo.proofs.Commands.Drafts.{format-draft}
use Rattle.session_undo.proofs.session.Session.format_draft.Goals as goal

pub returns-clause-made : goal.returns-clause-made
returns-clause-made g c =
    let (compiled, is, made) = c.in_ok-new.ensures.made in
    format-draft c.args.self.now c.show_limits.ensures c.args.group.now c.args.align (meaning c.args.format.now) compiled c.in_ok-new.new is made
