use Rattle.std.proofs.lemmas.Result.{IfOk-weaker}
use Rattle.claim_check.proofs.Checked.{claim_judged}
use Rattle.claim_check.proofs.checking.claim_answer.Goals as goal

pub returns-in-Ok : goal.returns-in-Ok
returns-in-Ok c = IfOk-weaker c.judged.result _ _ (λ a is. claim_judged _ c.args.p.now c.args.before c.in-Ok.claim a c.in-Ok.ensures.read is) c.judged.ensures
