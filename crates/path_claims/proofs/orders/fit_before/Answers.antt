use Rattle.std.proofs.Common.{◌≢◌, rules}
use Rattle.path_lines.proofs.Iffs.{wrong_then}
use Rattle.path_claims.proofs.Beginning.SumOrders.{placed_after}
use Rattle.path_claims.proofs.orders.fit_before.Goals as goal

pub returns-else-is_before : goal.returns-else-is_before
returns-else-is_before c = λ sum.
    let ne : c.args.named ≢ c.args.unfit = search rules in
    placed_after c.args.p.now c.args.named c.args.unfit c.in-Some.at c.in-Some-sum_at.first c.in-Some.ensures.some c.in-Some-sum_at.ensures.some
    (wrong_then c.is_before.result c.if-is_before.false c.is_before.ensures) ne
