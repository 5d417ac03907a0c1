use Rattle.std.proofs.Common.{sym, subst}
use Rattle.problem_core.specs.declared.parts.Level.{Level}
use Rattle.path_claims.specs.Orders.{IsSizeOf}
use Rattle.path_claims.proofs.Beginning.SumOrders.{stay_size}
use Rattle.path_claims.proofs.orders.level_size.Goals as goal

pub returns-in-Stay : goal.returns-in-Stay
returns-in-Stay c = subst (λ (l : Level). IsSizeOf c.args.p.now l 1) (sym c.in-Stay.is) (stay_size c.args.p.now c.in-Stay.field-0)
