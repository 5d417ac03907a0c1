use Rattle.std.proofs.lemmas.Result.{IfOk-weaker}
use Rattle.claim_check.proofs.Checked.{claim_answered}
use Rattle.claim_check.proofs.checking.answer_to.Goals as goal

pub returns-in-Ok : goal.returns-in-Ok
returns-in-Ok c = IfOk-weaker c.claim_answer.result _ _ (λ a is. claim_answered _ _ _ c.in-Ok.problem _ a c.cut_input-cut.ensures.cut c.in-Ok.ensures.read c.cut_input-cut.ensures.count is) c.claim_answer.ensures
