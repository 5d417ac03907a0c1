use Rattle.std.proofs.lemmas.Result.{IfOk-weaker, err_from_is_err_and}
use Rattle.script_text.specs.View.{change_view}
use Rattle.session_undo.specs.declared.reply.Reply as answer
use Rattle.session_undo.specs.Adding.{NoEnd}
use Rattle.session_undo.specs.Machine.{ChangeStep, EndsAs, Tried, kind_for}
use Rattle.scenes.specs.Drafts.{drafted, kind_of}
use Rattle.session_undo.specs.Replies.{Reply, accepted}
use Rattle.session_undo.proofs.Commands.Carried.{caused, drafted-step}
use Rattle.session_undo.proofs.Commands.Chains.{err-map}
use Rattle.session_undo.proofs.Commands.Steps.{refuses}
use Rattle.session_undo.proofs.session.Session.change.Goals as goal

pub take-requires : goal.take-requires
take-requires g c = c.in_ok-draft.ensures.made.may

pub returns-clause-accepted : goal.returns-clause-accepted
returns-clause-accepted g c =
    let change = change_view c.args.change.now in
    IfOk-weaker c.take.result (λ (reply : answer.Reply). EndsAs c.args.self.now (kind_of c.in_ok-draft.draft) (drafted c.args.self.now.scene c.in_ok-draft.draft) (accepted reply) c.take.new.self)
    (λ (reply : answer.Reply). ChangeStep c.args.self.now change (accepted reply) c.take.new.self)
    (λ reply end. drafted-step c.args.self.now change c.in_ok-draft.draft (accepted reply) c.take.new.self c.in_ok-draft.ensures.made end) c.take.ensures.accepted

pub returns-clause-refused : goal.returns-clause-refused
returns-clause-refused g c =
    let change = change_view c.args.change.now in
    err-map (λ (reply : Reply). EndsAs c.args.self.now (kind_of c.in_ok-draft.draft) (drafted c.args.self.now.scene c.in_ok-draft.draft) reply c.args.self.now)
    (λ (reply : Reply). ChangeStep c.args.self.now change reply c.args.self.now) c.take.result
    (λ reply end. drafted-step c.args.self.now change c.in_ok-draft.draft reply c.args.self.now c.in_ok-draft.ensures.made end) c.take.ensures.refused

pub returns-in_err-draft-clause-refused : goal.returns-in_err-draft-clause-refused
returns-in_err-draft-clause-refused g c =
    let change = change_view c.args.change.now in
    let exit = err_from_is_err_and c.from_residual.result c.from_residual.ensures.1 in
    rw (exit.1, exit.2)
    (refuses (λ (reply : Reply). Tried c.args.self.now change NoEnd reply c.args.self.now) (λ (reply : Reply). ChangeStep c.args.self.now change reply c.args.self.now)
    c.in_err-draft.field-0.0 (λ reply h. caused c.args.self.now change (EndsAs c.args.self.now (kind_for change)) reply c.args.self.now h) c.in_err-draft.ensures.refused)
