use Rattle.std.proofs.Common.{ℕ, sym, subst}
use Rattle.std.proofs.lemmas.Result.{IfOk-weaker}
use Rattle.span_text.specs.Objects.{object_view}
use Rattle.view_tree.specs.Views.{view_named}
use Rattle.session_undo.specs.declared.wishes.NewIntrinsic.{NewIntrinsic}
use Rattle.session_undo.specs.Adding.{IsFreeIntrinsic, IsIntrinsicFor, NoEnd, SizeStep}
use Rattle.session_undo.specs.Machine.{TriedSize}
use Rattle.session_undo.specs.Replies.{Reply}
use Rattle.session_undo.specs.Kept.{session_at}
use Rattle.session_undo.proofs.Commands.Chains.{err-map}
use Rattle.session_undo.proofs.Commands.SizeSteps.{size-step-causes}
use Rattle.session_undo.proofs.Commands.SuggestionSteps.{view-found}
use Rattle.session_undo.proofs.session.Session.new_intrinsic.Goals as goal

pub returns-clause-made : goal.returns-clause-made
returns-clause-made g c =
    let old = (session_at c.self.inside.scene c.self.inside.budget c.self.inside.limits c.self.inside.version) in
    let f = view-found (view_named old.scene.tree.views c.args.name.now) c.in-Some.view.0 (rw c.tree.ensures at c.in-Some.ensures) in
    rw (← c.self.view_is)
    (IfOk-weaker c.intrinsic_for.result (λ (new : NewIntrinsic). IsIntrinsicFor old c.in-Some.view.0 c.args.size.now.width c.args.size.now.height (object_view c.args.pulls.hug) (object_view c.args.pulls.resist) new) (λ (new : NewIntrinsic). IsFreeIntrinsic old c.args.name.now c.args.size.now.width c.args.size.now.height (object_view c.args.pulls.hug) (object_view c.args.pulls.resist) new)
    (λ new to. to c.args.name.now f.0 f.1 f.2) (rw (← c.self.view_is) at c.intrinsic_for.ensures.made))

pub returns-clause-refused : goal.returns-clause-refused
returns-clause-refused g c =
    let old = (session_at c.self.inside.scene c.self.inside.budget c.self.inside.limits c.self.inside.version) in
    let f = view-found (view_named old.scene.tree.views c.args.name.now) c.in-Some.view.0 (rw c.tree.ensures at c.in-Some.ensures) in
    rw (← c.self.view_is)
    (err-map (λ (reply : Reply). SizeStep old c.in-Some.view.0 c.args.size.now.width c.args.size.now.height (object_view c.args.pulls.hug) (object_view c.args.pulls.resist) reply old) (λ (reply : Reply). TriedSize old c.args.name.now c.args.size.now.width c.args.size.now.height (object_view c.args.pulls.hug) (object_view c.args.pulls.resist) NoEnd reply old) c.intrinsic_for.result
    (λ reply step. size-step-causes old c.args.size.now.width c.args.size.now.height (object_view c.args.pulls.hug) (object_view c.args.pulls.resist) c.args.name.now f.0 reply old f.1 (subst (λ (n : ℕ). SizeStep old n c.args.size.now.width c.args.size.now.height (object_view c.args.pulls.hug) (object_view c.args.pulls.resist) reply old) (sym f.2) step))
    (rw (← c.self.view_is) at c.intrinsic_for.ensures.refused))
