use Rattle.path_lines.proofs.Stops.{is_refused}
use Rattle.path_levels.specs.Exchanges.Pivots.{IsExchangePivot}
use Rattle.path_fits.proofs.LastCorner.SignsAfter.{before_iff}
use Rattle.path_fits.proofs.last.has_no_negative_before_after.Goals as goal

pub returns-in-Ok : goal.returns-in-Ok
returns-in-Ok c = λ p at id is judged.
    let turn : IsExchangePivot p at c.in-Ok.pivot = c.in-Ok.ensures.pivot p at is.kept.there is.kept.lines_are is.exchange in
    before_iff p at c.args.last c.in-Ok.pivot id c.args.judged c.args.rows c.are_up_after.result turn c.in-Ok.ensures.step judged (c.are_up_after.ensures p at turn is.kept.lines_are)

pub returns-in-Err-Refused : goal.returns-in-Err-Refused
returns-in-Err-Refused c = λ p at id is judged. absurd (c.in-Err-Refused.ensures.unfit (is_refused _ _ c.in-Err-Refused.field-0-is) p at is.kept.there is.kept.lines_are is.exchange)
