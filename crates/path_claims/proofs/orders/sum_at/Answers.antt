use Rattle.path_claims.proofs.Beginning.SumOrders.{no_over_place}
use Rattle.path_claims.proofs.orders.sum_at.Goals as goal

pub returns-in_err-at-in-Terms-clause-none : goal.returns-in_err-at-in-Terms-clause-none
returns-in_err-at-in-Terms-clause-none c = rw c.from_residual.ensures (no_over_place c.args.p.now c.args.sum c.in-Terms.mark c.in-Terms.first c.in-Terms.is c.in_err-at-in-Terms.ensures.none)
