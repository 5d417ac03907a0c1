use Rattle.std.proofs.Common.{List, subst, sym}
use Rattle.problem_core.specs.Corners.{exchanged}
use Rattle.path_lines.specs.declared.spots.Step.{Step}
use Rattle.path_lines.specs.Tables.{swap_of}
use Rattle.path_lines.proofs.Stops.{is_refused}
use Rattle.path_levels.specs.declared.columns_after.WideLevel.{WideLevel}
use Rattle.path_levels.specs.Exchanges.WideCosts.{AreWideAt}
use Rattle.path_levels.proofs.columns_after.has_no_negative_column_after.Goals as goal

pub returns : goal.returns
returns c = λ p at kept sums ex.
    let turn = c.in-Ok.ensures.pivot p at kept.there kept.lines_are ex in
    let made = c.in_ok-next.ensures.next p at turn kept.outline_is sums in
    let next : AreWideAt p (exchanged (swap_of p c.args.exchange.step) at) c.args.exchange.corner.outline.now c.in_ok-next.next.items = subst (λ (s : Step). AreWideAt p (exchanged (swap_of p s) at) c.args.exchange.corner.outline.now c.in_ok-next.next.items) c.in-Ok.ensures.step made in
    c.has_no_negative_after.ensures p at kept ex
    (subst (λ (xs : List WideLevel). AreWideAt p (exchanged (swap_of p c.args.exchange.step) at) c.args.exchange.corner.outline.now xs) (sym c.deref.ensures.value) next)

pub returns-in-Err-Refused : goal.returns-in-Err-Refused
returns-in-Err-Refused c = λ p at kept sums ex. absurd (c.in-Err-Refused.ensures.unfit (is_refused _ _ c.in-Err-Refused.field-0-is) p at kept.there kept.lines_are ex)
