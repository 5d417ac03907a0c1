use Rattle.std.proofs.lemmas.Result.{err_from_is_err_and}
use Rattle.path_lines.proofs.exchange.put_line.Goals as goal

pub returns-in_err-line-clause-unfit : goal.returns-in_err-line-clause-unfit
returns-in_err-line-clause-unfit c =
    let exit = err_from_is_err_and c.from_residual-in_err-line.result c.from_residual-in_err-line.ensures.1 in
    rw (exit.1, exit.2) (λ same. c.in_err-line.ensures.unfit same)
