use Rattle.path_claims.proofs.Beginning.SumOrders.{no_stay_number, stay_number_there}
use Rattle.path_claims.proofs.orders.stay_number.Goals as goal

pub returns-in_err-at-clause-none : goal.returns-in_err-at-clause-none
returns-in_err-at-clause-none c = rw c.from_residual.ensures (λ k there. no_stay_number c.args.p.now c.stays.result.now c.args.attr k c.stays.ensures c.in_err-at.ensures.none there)

pub returns-clause-some : goal.returns-clause-some
returns-clause-some c = stay_number_there c.args.p.now c.stays.result.now c.args.attr c.in_ok-at.at c.stays.ensures c.in_ok-at.ensures.within c.in_ok-at.ensures.found
