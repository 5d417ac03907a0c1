use Rattle.std.proofs.Common.{◌≡◌, ◌∙◌, nat_eq, List, length, filter, take_all, ap, arith}
use Rattle.problem_core.specs.Layout.{Row}
use Rattle.path_claims.proofs.Beginning.SumOrders.{rank_size}
use Rattle.path_claims.proofs.orders.rank_count.Goals as goal

pub returns : goal.returns
returns c =
    let rows : length c.rows-r-items.result.now ≡ length c.args.p.now.rows = ap (λ (rs : List Row). length rs) c.rows-r-items.ensures in
    rank_size c.args.p.now c.args.rank c.loop-r.count c.show_whole.ensures
    (c.loop-r.invariant.count ∙ ap (λ (rs : List Row). length (filter (λ (r : Row). nat_eq r.rank c.args.rank) rs)) (take_all c.loop-r.r-index c.args.p.now.rows (omega (arith, rows, c.loop-r-test.false))))
