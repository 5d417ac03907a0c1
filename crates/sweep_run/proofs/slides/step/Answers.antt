use Rattle.std.proofs.lemmas.Result.{err_from_is_err_and}
use Rattle.sweep_run.proofs.Stepping.{trail_of}
use Rattle.sweep_run.proofs.slides.step.Goals as goal

pub push_clash-requires-clause-costs : goal.push_clash-requires-clause-costs
push_clash-requires-clause-costs g c = c.is_costly.ensures.yes c.if-is_costly.true

pub returns-in_err-next-clause-stop : goal.returns-in_err-next-clause-stop
returns-in_err-next-clause-stop g c =
    let p = err_from_is_err_and c.from_residual-in_err-next.result c.from_residual-in_err-next.ensures.1 in
    rw (p.1, p.2)
    (λ first sliding few. c.in_err-next.ensures.stop c.args.budget first (trail_of c.args.c.now c.args.way.now first c.args.trail.now c.args.slid.now sliding) few)

pub returns-in_err-finish-in-None-clause-stop : goal.returns-in_err-finish-in-None-clause-stop
returns-in_err-finish-in-None-clause-stop g c =
    let p = err_from_is_err_and c.from_residual-in_err-finish-in-None.result c.from_residual-in_err-finish-in-None.ensures.1 in
    rw (p.1, p.2) (c.in_err-finish-in-None.ensures.stop c.args.budget)
