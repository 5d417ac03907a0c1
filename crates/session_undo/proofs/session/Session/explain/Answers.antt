use Rattle.std.proofs.Common.{inl, inr}
use Rattle.std.proofs.lemmas.Result.{IfOk-weaker, err_from_is_err_and}
use Rattle.script_text.specs.View.{change_view}
use Rattle.scenes.specs.Drafts.{drafted}
use Rattle.session_undo.specs.Adding.{NoEnd}
use Rattle.session_undo.specs.Explaining.{ExplainsDraft, WhyStep}
use Rattle.session_undo.specs.Machine.{Tried}
use Rattle.session_undo.specs.Replies.{Reply, accepted}
use Rattle.session_undo.specs.declared.reply.Reply as answer
use Rattle.session_undo.proofs.Commands.Carried.{drafted-poses}
use Rattle.session_undo.proofs.Commands.Chains.{err-map}
use Rattle.session_undo.proofs.Commands.Steps.{refuses}
use Rattle.session_undo.proofs.session.Session.explain.Goals as goal

pub explained-requires : goal.explained-requires
explained-requires g c = c.in_ok-draft.ensures.made.may

-- the problem of the draft is explained
pub returns-clause-accepted : goal.returns-clause-accepted
returns-clause-accepted g c =
    let old = c.args.self.now in let change = change_view c.args.change.now in let d = c.in_ok-draft.draft in
    IfOk-weaker c.explained.result (λ (reply : answer.Reply). ExplainsDraft old (drafted old.scene d) (accepted reply) c.explained.new.self) (λ (reply : answer.Reply). WhyStep old change (accepted reply) c.explained.new.self)
    (λ reply (p, of, explains). inr (p, drafted-poses old change d p c.in_ok-draft.ensures.made of, explains)) c.explained.ensures.accepted

pub returns-clause-refused : goal.returns-clause-refused
returns-clause-refused g c =
    let old = c.args.self.now in let change = change_view c.args.change.now in let d = c.in_ok-draft.draft in
    err-map (λ (reply : Reply). ExplainsDraft old (drafted old.scene d) reply old) (λ (reply : Reply). WhyStep old change reply old) c.explained.result
    (λ reply (p, of, explains). inr (p, drafted-poses old change d p c.in_ok-draft.ensures.made of, explains)) c.explained.ensures.refused

-- a cause against the change is one against the question
pub returns-in_err-draft-clause-refused : goal.returns-in_err-draft-clause-refused
returns-in_err-draft-clause-refused g c =
    let old = c.args.self.now in let change = change_view c.args.change.now in
    let exit = err_from_is_err_and c.from_residual.result c.from_residual.ensures.1 in
    rw (exit.1, exit.2)
    (refuses (λ (reply : Reply). Tried old change NoEnd reply old) (λ (reply : Reply). WhyStep old change reply old)
    c.in_err-draft.field-0.0 (λ reply h. inl h) c.in_err-draft.ensures.refused)
