use Rattle.path_levels.proofs.LevelsOfLines.{stays_high}
use Rattle.path_levels.proofs.rows.level_of_lines.Goals as goal
use Rattle.frac_core.proofs.Results.{err_implies, ok_implies}

pub returns-in-Stay-clause-row : goal.returns-in-Stay-clause-row
returns-in-Stay-clause-row c =
    let high = stays_high c.args.corner.outline.now c.args.place c.in-Stay.field-0 c.index.result.now c.requires.place c.index.ensures c.in-Stay.is in
    ok_implies c.stay_level.result _ _ (λ sum row p at are. row p at are (high p are.outline_is)) c.stay_level.ensures.row

pub returns-in-Stay-clause-unfit : goal.returns-in-Stay-clause-unfit
returns-in-Stay-clause-unfit c =
    let high = stays_high c.args.corner.outline.now c.args.place c.in-Stay.field-0 c.index.result.now c.requires.place c.index.ensures c.in-Stay.is in
    err_implies c.stay_level.result _ _ (λ stop unfit. unfit high) c.stay_level.ensures.unfit
