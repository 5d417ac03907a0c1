use Rattle.std.proofs.Common.{◌<◌, ℕ, sym, subst}
use Rattle.path_lines.proofs.Stops.{is_refused}
use Rattle.problem_core.specs.Levels.{IsLevelAt}
use Rattle.path_levels.specs.Outlines.{number_at}
use Rattle.path_fits.specs.Fits.{marks_after}
use Rattle.path_levels.specs.Levels.{IsLevelSum}
use Rattle.path_fits.proofs.LastCorner.LevelsAfter.{empty_level_fits, level_fits_there}
use Rattle.path_fits.proofs.LastCorner.SumsAfter.{step_there}
use Rattle.path_fits.proofs.last.sums_after.level_fit.Goals as goal

pub returns-in_default : goal.returns-in_default
returns-in_default c = λ at is unfit.
    empty_level_fits c.args.p.now (marks_after c.args.p.now c.args.last at) c.args.level (step_there c.args.p.now at c.args.last.step is.kept.there is.exchange (subst (λ (n : ℕ). c.args.last.step.enter.at < n) is.kept.lines_are.count c.requires.step.0))
    (c.in_default.ensures.none c.args.p.now is.kept.outline_is) unfit

pub returns-in-Ok : goal.returns-in-Ok
returns-in-Ok c = λ at is unfit.
    let level : IsLevelAt c.args.p.now c.args.level (number_at c.args.last.tableau.corner.outline.now.levels.items c.in-Some.place) = c.in-Some.ensures.found c.args.p.now is.kept.outline_is in
    let sum : IsLevelSum c.args.p.now at (number_at c.args.last.tableau.corner.outline.now.levels.items c.in-Some.place) c.index-levels-place.result =
    subst (IsLevelSum c.args.p.now at (number_at c.args.last.tableau.corner.outline.now.levels.items c.in-Some.place)) (sym c.index-levels-place.is) (is.levels.each c.in-Some.place c.index-levels-place.result c.in-Some.ensures.within) in
    level_fits_there c.args.p.now (marks_after c.args.p.now c.args.last at) c.args.level (number_at c.args.last.tableau.corner.outline.now.levels.items c.in-Some.place) c.in-Ok.next is.kept.there.whole level (c.in-Ok.ensures.next c.args.p.now at is.kept sum is.exchange) c.num.ensures.kept.fits unfit

pub returns-in-Err-Refused : goal.returns-in-Err-Refused
returns-in-Err-Refused c = λ at is.
    let level : IsLevelAt c.args.p.now c.args.level (number_at c.args.last.tableau.corner.outline.now.levels.items c.in-Some.place) = c.in-Some.ensures.found c.args.p.now is.kept.outline_is in
    let sum : IsLevelSum c.args.p.now at (number_at c.args.last.tableau.corner.outline.now.levels.items c.in-Some.place) c.index-levels-place.result =
    subst (IsLevelSum c.args.p.now at (number_at c.args.last.tableau.corner.outline.now.levels.items c.in-Some.place)) (sym c.index-levels-place.is) (is.levels.each c.in-Some.place c.index-levels-place.result c.in-Some.ensures.within) in
    (number_at c.args.last.tableau.corner.outline.now.levels.items c.in-Some.place, level, c.in-Err-Refused.ensures.unfit (is_refused _ _ c.in-Err-Refused.field-0-is) c.args.p.now at is.kept sum is.exchange)
