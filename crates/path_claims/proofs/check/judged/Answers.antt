use Rattle.path_lines.proofs.Exchanges.Leading.{ok_then}
use Rattle.path_claims.proofs.LastSteps.{stopped}
use Rattle.path_claims.proofs.check.judged.Goals as goal

pub returns-in-Err : goal.returns-in-Err
returns-in-Err c = ok_then c.ended.result (λ v is. stopped c.args.case.p.now c.args.case.path.now c.args.unfit c.in-Err.stop v c.in-Err.ensures.stop is) c.ended.ensures
