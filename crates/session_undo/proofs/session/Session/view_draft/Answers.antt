use Rattle.std.proofs.Common.{List, ℕ, subst}
use Rattle.script_text.specs.View.{name_view}
use Rattle.session_undo.specs.Adding.{IsFreeView}
use Rattle.session_undo.proofs.Commands.Drafts.{view-draft}
use Rattle.session_undo.proofs.session.Session.view_draft.Goals as goal

pub returns-clause-made : goal.returns-clause-made
returns-clause-made g c =
    let free = subst (λ (p : List ℕ). IsFreeView c.args.self.now c.args.name.now p c.in_ok-new.new.tree c.in_ok-new.new.first_view.0) c.parent_or_window.ensures c.in_ok-new.ensures.made in
    view-draft c.args.self.now c.show_limits.ensures c.args.name.now (name_view c.args.parent) c.in_ok-new.new free c.in_ok-new.ensures.one c.in_ok-new.ensures.grown
