use Rattle.std.proofs.lemmas.Result.{err_from_is_err_and}
use Rattle.span_text.specs.Objects.{object_view}
use Rattle.session_undo.specs.Machine.{UnlessPullsRankless, UnlessUnknown, hugging, resisting}
use Rattle.session_undo.specs.Replies.{Reply}
use Rattle.session_undo.proofs.Commands.SizeSteps.{hug-unknown, resist-unknown}
use Rattle.session_undo.proofs.Commands.Steps.{refuses}
use Rattle.session_undo.proofs.session.Session.ranks_of.Goals as goal

pub returns-in_err-hug-clause-refused : goal.returns-in_err-hug-clause-refused
returns-in_err-hug-clause-refused g c =
    let exit = err_from_is_err_and c.from_residual.result c.from_residual.ensures.1 in
    rw (exit.1, exit.2)
    (refuses (λ (reply : Reply). UnlessUnknown c.args.self.now (hugging (object_view c.args.pulls.hug)) (λ r n. ⊥) reply c.args.self.now)
    (λ (reply : Reply). UnlessPullsRankless c.args.self.now (object_view c.args.pulls.hug) (object_view c.args.pulls.resist) (λ r n. ⊥) reply c.args.self.now) c.in_err-hug.field-0.0
    (λ reply h. hug-unknown c.args.self.now (object_view c.args.pulls.hug) (object_view c.args.pulls.resist) (λ r n. ⊥) reply c.args.self.now h) c.in_err-hug.ensures.refused)

pub returns-in_err-resist-clause-refused : goal.returns-in_err-resist-clause-refused
returns-in_err-resist-clause-refused g c =
    let exit = err_from_is_err_and c.from_residual-in_err-resist.result c.from_residual-in_err-resist.ensures.1 in
    rw (exit.1, exit.2)
    (refuses (λ (reply : Reply). UnlessUnknown c.args.self.now (resisting (object_view c.args.pulls.resist)) (λ r n. ⊥) reply c.args.self.now)
    (λ (reply : Reply). UnlessPullsRankless c.args.self.now (object_view c.args.pulls.hug) (object_view c.args.pulls.resist) (λ r n. ⊥) reply c.args.self.now) c.in_err-resist.field-0.0
    (λ reply h. resist-unknown c.args.self.now (object_view c.args.pulls.hug) (object_view c.args.pulls.resist) (λ r n. ⊥) reply c.args.self.now c.in_ok-hug.ensures.known h) c.in_err-resist.ensures.refused)
