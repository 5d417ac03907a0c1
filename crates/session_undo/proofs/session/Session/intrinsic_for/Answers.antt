use Rattle.std.proofs.Common.{◌≡◌, Some, None, refl, rules}
use Rattle.std.proofs.lemmas.Result.{err_from_is_err_and}
use Rattle.span_text.specs.Objects.{object_view}
use Rattle.held_items.specs.Items.{intrinsic_of}
use Rattle.session_undo.specs.Adding.{SizeStep}
use Rattle.session_undo.specs.Machine.{UnlessPullsRankless}
use Rattle.session_undo.specs.Replies.{Limit, Reply}
use Rattle.session_undo.proofs.Commands.SizeSteps.{first-size, later-far, later-size, later-written, none-meant, one-meant, pulled-step, pulls-unranked}
use Rattle.session_undo.proofs.Commands.Steps.{refuses}
use Rattle.session_undo.proofs.session.Session.intrinsic_for.Goals as goal

pub returns-in_err-ranks-clause-refused : goal.returns-in_err-ranks-clause-refused
returns-in_err-ranks-clause-refused g c =
    let exit = err_from_is_err_and c.from_residual.result c.from_residual.ensures.1 in
    rw (exit.1, exit.2)
    (refuses (λ (reply : Reply). UnlessPullsRankless c.args.self.now (object_view c.args.pulls.hug) (object_view c.args.pulls.resist) (λ r n. ⊥) reply c.args.self.now)
    (λ (reply : Reply). SizeStep c.args.self.now c.args.view.0 c.args.size.now.width c.args.size.now.height (object_view c.args.pulls.hug) (object_view c.args.pulls.resist) reply c.args.self.now) c.in_err-ranks.field-0.0
    (λ reply h. pulls-unranked c.args.self.now c.args.size.now.width c.args.size.now.height (object_view c.args.pulls.hug) (object_view c.args.pulls.resist) c.args.view.0 reply c.args.self.now h) c.in_err-ranks.ensures.refused)

pub returns-in-Ok-clause-made : goal.returns-in-Ok-clause-made
returns-in-Ok-clause-made g c =
    let none : intrinsic_of c.args.view.0 c.args.self.now.scene.held ≡ None = search rules in
    first-size c.args.self.now c.args.view.0 c.args.size.now.width c.args.size.now.height (object_view c.args.pulls.hug) (object_view c.args.pulls.resist) c.in_ok-ranks.ranks c.in_ok-ranks.ensures.known c.in_ok-ranks.ensures.ranks c.in-Ok.new none c.in-Ok.ensures.room c.in-Ok.ensures.is

pub returns-in-Err-clause-refused : goal.returns-in-Err-clause-refused
returns-in-Err-clause-refused g c =
    let none : intrinsic_of c.args.view.0 c.args.self.now.scene.held ≡ None = search rules in
    pulled-step c.args.self.now c.args.size.now.width c.args.size.now.height (object_view c.args.pulls.hug) (object_view c.args.pulls.resist) c.args.view.0 c.in_ok-ranks.ranks None (Limit c.in-Err.limit) c.args.self.now c.in_ok-ranks.ensures.known c.in_ok-ranks.ensures.ranks none
    (c.in-Err.ensures.stop (object_view c.args.pulls.hug) (object_view c.args.pulls.resist))

pub returns-then-is_written-clause-refused : goal.returns-then-is_written-clause-refused
returns-then-is_written-clause-refused g c =
    let some : intrinsic_of c.args.view.0 c.args.self.now.scene.held ≡ Some c.in-Some.held = search rules in
    later-written c.args.self.now c.args.view.0 c.args.size.now.width c.args.size.now.height (object_view c.args.pulls.hug) (object_view c.args.pulls.resist) c.in_ok-ranks.ranks c.in_ok-ranks.ensures.known c.in_ok-ranks.ensures.ranks c.in-Some.held some (one-meant c.args.pulls.hug c.args.pulls.resist (c.if-is_written.ensures.yes refl))

pub returns-in-Some-later_intrinsic-clause-made : goal.returns-in-Some-later_intrinsic-clause-made
returns-in-Some-later_intrinsic-clause-made g c =
    let some : intrinsic_of c.args.view.0 c.args.self.now.scene.held ≡ Some c.in-Some.held = search rules in
    later-size c.args.self.now c.args.view.0 c.args.size.now.width c.args.size.now.height (object_view c.args.pulls.hug) (object_view c.args.pulls.resist) c.in_ok-ranks.ranks c.in_ok-ranks.ensures.known c.in_ok-ranks.ensures.ranks c.in-Some.held some c.in-Some-later_intrinsic.again (none-meant c.args.pulls.hug c.args.pulls.resist (c.if-is_written.ensures.no refl)) c.in-Some-later_intrinsic.ensures.is c.in-Some-later_intrinsic.ensures.near

pub returns-in-None-clause-refused : goal.returns-in-None-clause-refused
returns-in-None-clause-refused g c =
    let some : intrinsic_of c.args.view.0 c.args.self.now.scene.held ≡ Some c.in-Some.held = search rules in
    later-far c.args.self.now c.args.view.0 c.args.size.now.width c.args.size.now.height (object_view c.args.pulls.hug) (object_view c.args.pulls.resist) c.in_ok-ranks.ranks c.in_ok-ranks.ensures.known c.in_ok-ranks.ensures.ranks c.in-Some.held some (none-meant c.args.pulls.hug c.args.pulls.resist (c.if-is_written.ensures.no refl)) c.in-None.ensures.far
