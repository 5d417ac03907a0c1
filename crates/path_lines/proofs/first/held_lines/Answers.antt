use Rattle.std.proofs.Common.{◌≡◌, ◌∙◌, ◌+◌, ◌<◌, List, length, get_or, sym, ap, subst, Option, Some}
use Rattle.std.proofs.lemmas.Result.{err_from_is_err_and}
use Rattle.problem_core.specs.declared.parts.Side.TheVariants.{Over}
use Rattle.problem_core.specs.Layout.{Row}
use Rattle.path_lines.specs.declared.table.Inside.{Inside}
use Rattle.path_lines.specs.Walking.FirstLines.{AreFirstLines}
use Rattle.path_lines.proofs.Walking.FirstLines.{held_line, one_line_more}
use Rattle.path_lines.proofs.first.held_lines.Goals as goal

pub loop-r-preserved : goal.loop-r-preserved
loop-r-preserved c =
    subst (λ (zs : List (Option Inside)). AreFirstLines c.args.p.now (c.loop-r.r-index + 1) zs) (sym c.in_ok-push.ensures.items)
    (one_line_more c.args.p.now c.loop-r.r-index c.loop-r.out.items (Some (record { side = Over; sum = c.in_ok-sum.sum })) c.loop-r.invariant
    (held_line c.args.p.now c.loop-r.r-index c.r-item.result c.in_ok-sum.sum (subst (λ (rs : List Row). c.loop-r.r-index < length rs) c.rows-r-items.ensures c.loop-r-test.true)
    (sym (c.r-item.is ∙ ap (λ (rs : List Row). get_or rs c.loop-r.r-index c.r-item.result) c.rows-r-items.ensures)) c.in_ok-sum.ensures.sum))

pub returns-in_err-sum-clause-unfit : goal.returns-in_err-sum-clause-unfit
returns-in_err-sum-clause-unfit c =
    let exit = err_from_is_err_and c.from_residual.result c.from_residual.ensures.1 in
    let within : c.loop-r.r-index < length c.args.p.now.rows = subst (λ (rs : List Row). c.loop-r.r-index < length rs) c.rows-r-items.ensures c.loop-r-test.true in
    let here : c.r-item.result ≡ get_or c.args.p.now.rows c.loop-r.r-index c.r-item.result = c.r-item.is ∙ ap (λ (rs : List Row). get_or rs c.loop-r.r-index c.r-item.result) c.rows-r-items.ensures in
    rw (exit.1, exit.2) (λ same. (c.loop-r.r-index, c.r-item.result, within, sym here, c.in_err-sum.ensures.unfit same))
