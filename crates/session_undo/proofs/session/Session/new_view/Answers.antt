use Rattle.std.proofs.Common.{refl}
use Rattle.std.proofs.lemmas.Result.{err_from_is_err_and}
use Rattle.session_undo.specs.Adding.{NoEnd, UnlessUnfree, ViewStep}
use Rattle.session_undo.specs.Kept.{session_at}
use Rattle.session_undo.specs.Machine.{TriedView}
use Rattle.session_undo.specs.Replies.{Reply}
use Rattle.session_undo.proofs.Commands.Chains.{IsAsked, found-live, view-free, view-full, view-limited, view-unfree}
use Rattle.session_undo.proofs.Commands.Steps.{refuses}
use Rattle.session_undo.proofs.session.Session.new_view.Goals as goal

pub views_with-requires-clause-live : goal.views_with-requires-clause-live
views_with-requires-clause-live g c = rw (← c.self.view_is) (found-live c.self.inside.scene.scene.tree.views c.args.parent.now c.in-Some.above.0 (rw c.tree.ensures at c.in-Some.ensures))

pub returns-in_err-free_name-clause-refused : goal.returns-in_err-free_name-clause-refused
returns-in_err-free_name-clause-refused g c =
    let old = (session_at c.self.inside.scene c.self.inside.budget c.self.inside.limits c.self.inside.version) in
    let exit = err_from_is_err_and c.from_residual-in_err-free_name.result c.from_residual-in_err-free_name.ensures.1 in
    rw (exit.1, exit.2, ← c.self.view_is)
    (refuses (λ (reply : Reply). UnlessUnfree old c.args.name.now (λ r n. ⊥) reply old) (λ (reply : Reply). TriedView old c.args.name.now c.args.parent.now NoEnd reply old) c.in_err-free_name.field-0.0
    (λ reply h. view-unfree old c.args.name.now c.args.parent.now c.in-Some.above.0 NoEnd reply old (rw c.tree.ensures at c.in-Some.ensures) h) (rw (← c.self.view_is) at c.in_err-free_name.ensures.refused))

pub returns-in_err-new-clause-refused : goal.returns-in_err-new-clause-refused
returns-in_err-new-clause-refused g c =
    let old = (session_at c.self.inside.scene c.self.inside.budget c.self.inside.limits c.self.inside.version) in
    let asked : IsAsked old c.args.name.now c.args.parent.now c.in-Some.above.0 = record {
      found = rw c.tree.ensures at c.in-Some.ensures;
      named = rw (← c.self.view_is) at c.in_ok-free_name.ensures.free;
      most = c.self.invariant.1.scene;
    } in
    let exit = err_from_is_err_and c.from_residual-in_err-new.result c.from_residual-in_err-new.ensures.1 in
    rw (exit.1, exit.2, ← c.self.view_is)
    (refuses (λ (reply : Reply). ViewStep old c.args.name.now c.in-Some.above.0 reply old) (λ (reply : Reply). TriedView old c.args.name.now c.args.parent.now NoEnd reply old) c.in_err-new.field-0.0
    (λ reply h. view-limited old c.args.name.now c.args.parent.now c.in-Some.above.0 NoEnd asked reply old h) (rw (← c.self.view_is) at c.in_err-new.ensures.refused))

pub returns-then-is_crowded-clause-refused : goal.returns-then-is_crowded-clause-refused
returns-then-is_crowded-clause-refused g c =
    let old = (session_at c.self.inside.scene c.self.inside.budget c.self.inside.limits c.self.inside.version) in
    let asked : IsAsked old c.args.name.now c.args.parent.now c.in-Some.above.0 = record {
      found = rw c.tree.ensures at c.in-Some.ensures;
      named = rw (← c.self.view_is) at c.in_ok-free_name.ensures.free;
      most = c.self.invariant.1.scene;
    } in
    rw (← c.self.view_is)
    (view-full old c.args.name.now c.args.parent.now c.in-Some.above.0 NoEnd asked c.in_ok-new.new (rw (← c.self.view_is) at c.in_ok-new.ensures.made) (rw (← c.self.view_is) at (c.if-is_crowded.ensures.yes refl)))

pub returns-clause-made : goal.returns-clause-made
returns-clause-made g c =
    let old = (session_at c.self.inside.scene c.self.inside.budget c.self.inside.limits c.self.inside.version) in
    let asked : IsAsked old c.args.name.now c.args.parent.now c.in-Some.above.0 = record {
      found = rw c.tree.ensures at c.in-Some.ensures;
      named = rw (← c.self.view_is) at c.in_ok-free_name.ensures.free;
      most = c.self.invariant.1.scene;
    } in
    rw (← c.self.view_is)
    (view-free old c.args.name.now c.args.parent.now c.in-Some.above.0 c.in_ok-new.new asked (rw (← c.self.view_is) at c.in_ok-new.ensures.made) (rw (← c.self.view_is) at (c.if-is_crowded.ensures.no refl)))

pub returns-clause-one : goal.returns-clause-one
returns-clause-one g c = c.in_ok-new.ensures.made.one

pub returns-clause-grown : goal.returns-clause-grown
returns-clause-grown g c = c.in_ok-new.ensures.made.coming
