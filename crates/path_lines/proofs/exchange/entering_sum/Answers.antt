use Rattle.std.proofs.lemmas.Result.{err_from_is_err_and}
use Rattle.path_lines.proofs.Exchanges.NextLines.{entering_from, entering_unfit_from}
use Rattle.path_lines.proofs.exchange.entering_sum.Goals as goal

pub returns-in_err-numbers-clause-unfit : goal.returns-in_err-numbers-clause-unfit
returns-in_err-numbers-clause-unfit c =
    let exit = err_from_is_err_and c.from_residual-in_err-numbers.result c.from_residual-in_err-numbers.ensures.1 in
    rw (exit.1, exit.2) (λ same p at is entered.
    entering_unfit_from p at c.args.pivot.now c.args.enters c.in_ok-wide.wide.own c.in_ok-wide.wide.by.items c.in_ok-wide.ensures.own c.in_ok-wide.ensures.by (c.in_err-numbers.ensures.unfit same) is entered)

pub returns-clause-sum : goal.returns-clause-sum
returns-clause-sum c = λ p at is entered.
    entering_from p at c.args.pivot.now c.args.enters c.sum_of.result c.in_ok-wide.wide.own c.in_ok-numbers.numbers.own c.in_ok-wide.wide.by.items c.in_ok-numbers.numbers.by.items c.in_ok-wide.ensures.own c.in_ok-wide.ensures.by
    c.in_ok-numbers.ensures.lowest c.in_ok-numbers.ensures.above c.in_ok-numbers.ensures.fits c.sum_of.ensures.own c.sum_of.ensures.by c.sum_of.ensures.value is entered
