use Rattle.std.proofs.lemmas.Result.{err_from_is_err_and}
use Rattle.path_lines.specs.Exchanges.Pivots.{IsEnteredBy}
use Rattle.path_lines.proofs.Exchanges.Leading.{err_then, leads, leads_to_unfit, ok_then, value_leads_to_unfit}
use Rattle.path_lines.proofs.exchange.solved_lines.Goals as goal

pub returns-in_err-enters-clause-unfit : goal.returns-in_err-enters-clause-unfit
returns-in_err-enters-clause-unfit c =
    let exit = err_from_is_err_and c.from_residual.result c.from_residual.ensures.1 in
    rw (exit.1, exit.2) (λ same. value_leads_to_unfit c.args.pivot.now.step c.args.lines.items c.requires.pivot.leaving c.args.pivot.now c.requires.enter c.requires.pivot.solved c.in_err-enters.ensures.unfit c.requires.pivot.left)

pub returns-clause-next : goal.returns-clause-next
returns-clause-next c =
    let entered : IsEnteredBy c.args.pivot.now c.in_ok-enters.enters = (c.in_ok-enters.ensures.kept.lowest.above, c.in_ok-enters.ensures.ratio c.requires.pivot.solved.no_turn) in
    ok_then c.exchanged_lines.result
    (λ next made. leads c.args.pivot.now.step c.args.lines.items next.items c.requires.pivot.leaving c.args.pivot.now c.in_ok-enters.enters c.requires.enter c.requires.pivot.solved entered made c.requires.pivot.left)
    c.exchanged_lines.ensures.lines

pub returns-clause-unfit : goal.returns-clause-unfit
returns-clause-unfit c =
    let entered : IsEnteredBy c.args.pivot.now c.in_ok-enters.enters = (c.in_ok-enters.ensures.kept.lowest.above, c.in_ok-enters.ensures.ratio c.requires.pivot.solved.no_turn) in
    err_then c.exchanged_lines.result
    (λ stop unfit same. leads_to_unfit c.args.pivot.now.step c.args.lines.items c.requires.pivot.leaving c.args.pivot.now c.in_ok-enters.enters c.requires.enter c.requires.pivot.solved entered (unfit same) c.requires.pivot.left)
    c.exchanged_lines.ensures.unfit
