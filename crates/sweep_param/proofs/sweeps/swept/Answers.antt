use Rattle.std.proofs.Common.{inl}
use Rattle.std.proofs.lemmas.Result.{err_from_is_err_and}
use Rattle.sweep_param.proofs.sweeps.swept.Goals as goal

pub returns-in_err-stood-clause-stop : goal.returns-in_err-stood-clause-stop
returns-in_err-stood-clause-stop g c =
    let e = err_from_is_err_and c.from_residual-in_err-stood.result c.from_residual-in_err-stood.ensures.1 in rw e.1 (inl e.2)

pub returns-in_err-joined-clause-stop : goal.returns-in_err-joined-clause-stop
returns-in_err-joined-clause-stop g c =
    let e = err_from_is_err_and c.from_residual-in_err-joined.result c.from_residual-in_err-joined.ensures.1 in rw e.1 (inl e.2)
