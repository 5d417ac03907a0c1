use Rattle.std.proofs.Common.{◌≡◌, ◌∙◌, ◌<◌, List, take, sym, subst, arith}
use Rattle.problem_core.specs.declared.parts.Mark.{Mark}
use Rattle.problem_core.specs.Layout.{Problem}
use Rattle.path_lines.specs.Exchanges.Pivots.{next_marks}
use Rattle.path_lines.proofs.Exchanges.Leading.{ok_then}
use Rattle.path_lines.proofs.Stops.{is_refused}
use Rattle.path_levels.specs.declared.outline.LineFacts.{LineFacts}
use Rattle.path_fits.specs.FirstLines.{size_in}
use Rattle.path_fits.specs.Fits.{IsLastAfter}
use Rattle.path_levels.specs.Rows.{AreKeptOf}
use Rattle.path_levels.specs.Exchanges.Pivots.{IsExchangePivot}
use Rattle.path_fits.proofs.LastCorner.FirstRows.{empty_rows_fit, is_before, past_rows_fit, unfit_part}
use Rattle.path_fits.proofs.last.rows_after.rows_fit.Goals as goal
use Rattle.path_levels.proofs.Exchanges.FitFacts.{next_is_there as corner_after}

pub returns-in_default : goal.returns-in_default
returns-in_default c = λ p at is turn unfit. empty_rows_fit p (next_marks p c.args.pivot.now at) c.args.level c.args.first (c.in_default.ensures.none p is.kept.outline_is) unfit

pub returns-in_default-end_of_first : goal.returns-in_default-end_of_first
returns-in_default-end_of_first c =
    let few : size_in c.in-Some.place c.args.last.tableau.corner.outline.now.lines.items < c.args.first = subst (λ (fs : List LineFacts). size_in c.in-Some.place fs < c.args.first) c.deref.ensures.value c.in_default-end_of_first.ensures.none in
    λ p at is turn unfit.
    past_rows_fit p (next_marks p c.args.pivot.now at) c.args.last.tableau.corner.outline.now c.args.level c.in-Some.place c.args.first is.kept.there.whole is.kept.outline_is c.in-Some.ensures.within (c.in-Some.ensures.found p is.kept.outline_is) few unfit

pub returns-in-Ok : goal.returns-in-Ok
returns-in-Ok c =
    let size : size_in c.in-Some.place (take c.in-Some-end_of_first.end c.args.last.tableau.corner.outline.now.lines.items) ≡ c.args.first =
    subst (λ (fs : List LineFacts). size_in c.in-Some.place (take c.in-Some-end_of_first.end fs) ≡ c.args.first) c.deref.ensures.value c.in-Some-end_of_first.ensures.some in
    let kept : (p : Problem) (at : List Mark) → IsLastAfter p at c.args.last → IsExchangePivot p at c.args.pivot.now → AreKeptOf p (next_marks p c.args.pivot.now at) c.args.last.tableau.corner.outline.now c.in-Some.place c.args.first c.in-Ok.lines.items =
    λ p at is turn. record {
      outline_is = is.kept.outline_is;
      there = corner_after p at c.args.pivot.now turn;
      count = c.in-Ok.ensures.count ∙ is.kept.lines_are.count;
      each = λ k d f within own few.
          c.in-Ok.ensures.lines k d (omega (arith, within, is.kept.lines_are.count))
          (is_before p c.args.last.tableau.corner.outline.now c.in-Some.place c.in-Some-end_of_first.end c.args.first k f is.kept.outline_is c.in-Some.ensures.within size within own few) p at turn is.kept.lines_are;
    } in
    ok_then c.rows_at.result (λ fit h p at is turn.
    h p (next_marks p c.args.pivot.now at) c.args.level
    (subst (AreKeptOf p (next_marks p c.args.pivot.now at) c.args.last.tableau.corner.outline.now c.in-Some.place c.args.first) (sym c.deref-in-Ok.ensures.value) (kept p at is turn))
    (c.in-Some.ensures.found p is.kept.outline_is))
    c.rows_at.ensures

pub returns-in-Err-Refused : goal.returns-in-Err-Refused
returns-in-Err-Refused c =
    let size : size_in c.in-Some.place (take c.in-Some-end_of_first.end c.args.last.tableau.corner.outline.now.lines.items) ≡ c.args.first =
    subst (λ (fs : List LineFacts). size_in c.in-Some.place (take c.in-Some-end_of_first.end fs) ≡ c.args.first) c.deref.ensures.value c.in-Some-end_of_first.ensures.some in
    λ p at is turn.
    unfit_part p (next_marks p c.args.pivot.now at) c.args.last.tableau.corner.outline.now c.args.level c.in-Some.place c.in-Some-end_of_first.end c.args.first is.kept.outline_is c.in-Some.ensures.within (c.in-Some.ensures.found p is.kept.outline_is) size
    (c.in-Err-Refused.ensures.unfit (is_refused _ _ c.in-Err-Refused.field-0-is) p at turn is.kept.lines_are)
