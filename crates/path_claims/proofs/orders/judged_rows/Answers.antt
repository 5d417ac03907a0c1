use Rattle.path_claims.proofs.Beginning.SumOrders.{judged_of}
use Rattle.path_claims.proofs.orders.judged_rows.Goals as goal

pub returns-in-Held : goal.returns-in-Held
returns-in-Held c =
    judged_of c.args.p.now c.args.named c.in-Terms.mark c.in-Terms.first c.in-Held.id c.rows_before.result c.in-Terms.is c.in-Held.is
    c.rows_before.ensures.within c.rows_before.ensures.before c.rows_before.ensures.after
