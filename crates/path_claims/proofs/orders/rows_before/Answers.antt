use Rattle.std.proofs.Common.{◌∙◌, ◌<◌, List, length, get_or, ap, subst, arith}
use Rattle.problem_core.specs.Layout.{Row}
use Rattle.path_claims.proofs.Beginning.SumOrders.{rest_after}
use Rattle.path_claims.proofs.orders.rows_before.Goals as goal

pub returns-then-id-clause-after : goal.returns-then-id-clause-after
returns-then-id-clause-after c =
    rest_after c.args.p.now c.loop-at.at c.args.id c.r-item.result c.show_whole.ensures
    (subst (λ (rs : List Row). c.loop-at.at < length rs) c.rows-r-items.ensures c.loop-at-test.true)
    (c.r-item.is ∙ ap (λ (rs : List Row). get_or rs c.loop-at.at c.r-item.result) c.rows-r-items.ensures)
    (omega (arith, c.if-id.true, c.id.ensures))
