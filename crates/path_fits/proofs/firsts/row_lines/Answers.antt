use Rattle.std.proofs.Common.{◌∙◌, ◌+◌, ◌<◌, List, length, get_or, sym, ap, subst, Option}
use Rattle.problem_core.specs.Layout.{Row}
use Rattle.path_lines.specs.declared.table.Inside.{Inside}
use Rattle.path_fits.specs.FirstSums.{AreMade}
use Rattle.path_fits.proofs.Beginning.FirstSums.{one_more_made}
use Rattle.path_fits.proofs.firsts.row_lines.Goals as goal

pub loop-r-preserved : goal.loop-r-preserved
loop-r-preserved c =
    subst (λ (ls : List (Option Inside)). AreMade c.args.p.now (c.loop-r.r-index + 1) ls) (sym c.in_ok-push.ensures.items)
    (one_more_made c.args.p.now c.loop-r.r-index c.r-item.result c.in-Ok.sum c.loop-r.lines.items
    (subst (λ (rs : List Row). c.loop-r.r-index < length rs) c.rows-r-items.ensures c.loop-r-test.true)
    (c.r-item.is ∙ ap (λ (rs : List Row). get_or rs c.loop-r.r-index c.r-item.result) c.rows-r-items.ensures)
    c.in-Ok.ensures.sum c.in-Ok.ensures.fit c.loop-r.invariant)
