use Rattle.std.proofs.Common.{◌≡◌, ap, List, length, subst, arith}
use Rattle.problem_core.specs.declared.parts.Mark.{Mark}
use Rattle.problem_core.specs.declared.parts.Stay.{Stay}
use Rattle.problem_core.specs.Layout.{Row}
use Rattle.path_lines.proofs.Walking.FirstLines.{count_lines}
use Rattle.path_lines.proofs.Exchanges.Leading.{ok_then}
use Rattle.path_lines.proofs.Stops.{is_refused}
use Rattle.path_fits.specs.Fits.{IsFitAt}
use Rattle.path_levels.specs.Exchanges.Pivots.{IsExchangePivot}
use Rattle.path_fits.proofs.LastCorner.SignsAfter.{same_next}
use Rattle.path_fits.proofs.last.fit_after.Goals as goal

pub returns-in-Ok : goal.returns-in-Ok
returns-in-Ok c = ok_then c.quantity_fit.result (λ fit h at is.
    let turn : IsExchangePivot c.args.p.now at c.in-Ok.pivot = c.in-Ok.ensures.pivot c.args.p.now at is.kept.there is.kept.lines_are is.exchange in
    subst (λ (next : List Mark). IsFitAt c.args.p.now next c.args.named fit) (same_next c.args.p.now c.args.last c.in-Ok.pivot at c.in-Ok.ensures.step) (h at is turn)) c.quantity_fit.ensures

pub returns-then-lines-rows : goal.returns-then-lines-rows
returns-then-lines-rows c = λ at is.
    let rows : length c.rows.result.now ≡ length c.args.p.now.rows = ap (λ (rs : List Row). length rs) c.rows.ensures in
    let stays : length c.stays.result.now ≡ length c.args.p.now.stays = ap (λ (ss : List Stay). length ss) c.stays.ensures in
    absurd (omega (arith, c.if-lines-rows.true, rows, stays, count_lines c.args.p.now, is.kept.lines_are.count))

pub quantity_fit-requires-clause-count : goal.quantity_fit-requires-clause-count
quantity_fit-requires-clause-count c =
    let rows : length c.rows.result.now ≡ length c.args.p.now.rows = ap (λ (rs : List Row). length rs) c.rows.ensures in
    let stays : length c.stays.result.now ≡ length c.args.p.now.stays = ap (λ (ss : List Stay). length ss) c.stays.ensures in
    omega (arith, c.if-lines-rows.false, rows, stays, count_lines c.args.p.now)

pub returns-in-Err-Refused : goal.returns-in-Err-Refused
returns-in-Err-Refused c = λ at is. absurd (c.in-Err-Refused.ensures.unfit (is_refused _ _ c.in-Err-Refused.field-0-is) c.args.p.now at is.kept.there is.kept.lines_are is.exchange)
