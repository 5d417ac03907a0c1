use Rattle.std.proofs.lemmas.Result.{IfOk-weaker}
use Rattle.std.proofs.Common.{refl, inl}
use Rattle.cert_checker.proofs.Refuted.{unknown-cancels, verdict-refutes, verdict-conflict}
use Rattle.cert_checker.proofs.refuting.check_conflict.Goals as goal

pub returns-clause-verdict : goal.returns-clause-verdict
returns-clause-verdict c = rw c.by-by.ensures.value at c.judge.ensures

pub returns-clause-refutes : goal.returns-clause-refutes
returns-clause-refutes c =
    IfOk-weaker c.judge.result _ _ (λ v h. verdict-refutes c.args.p.now c.args.c.now v (rw c.by-by.ensures.value at h)) c.judge.ensures

pub returns-clause-conflict : goal.returns-clause-conflict
returns-clause-conflict c =
    IfOk-weaker c.judge.result _ _ (λ v h. verdict-conflict c.args.p.now c.show_whole.ensures c.args.c.now v (rw c.by-by.ensures.value at h)) c.judge.ensures

pub returns-in_default-clause-verdict : goal.returns-in_default-clause-verdict
returns-in_default-clause-verdict c =
    inl (refl, unknown-cancels c.args.p.now c.args.c.now (rw c.by-by.ensures.value at (rw c.in_default.is at c.in_ok-weighted.ensures.none)))
