use Rattle.std.proofs.lemmas.Result.{err_from_is_err_and}
use Rattle.path_levels.proofs.levels_after.next_levels.Goals as goal

pub returns-in_err-pivot-clause-unfit : goal.returns-in_err-pivot-clause-unfit
returns-in_err-pivot-clause-unfit c =
    let exit = err_from_is_err_and c.from_residual.result c.from_residual.ensures.1 in
    rw (exit.1, exit.2) (λ same p at are levels ex. absurd (c.in_err-pivot.ensures.unfit same p at are.there are.lines_are ex))

pub levels_by-requires-clause-pivot : goal.levels_by-requires-clause-pivot
levels_by-requires-clause-pivot c = record { step_is = c.in_ok-pivot.ensures.step; sized = c.in_ok-pivot.ensures.sized; gives = c.in_ok-pivot.ensures.pivot }
