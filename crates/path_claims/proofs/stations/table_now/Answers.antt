use Rattle.path_lines.proofs.Exchanges.Leading.{err_then}
use Rattle.path_claims.proofs.StationTables.{table_stuck}
use Rattle.path_claims.proofs.stations.table_now.Goals as goal

pub returns-in-Some-clause-unfit : goal.returns-in-Some-clause-unfit
returns-in-Some-clause-unfit c =
    err_then c.table_after.result (λ stop h same. table_stuck c.args.p.now c.args.outline.now c.args.station.table c.args.station.step c.in-Some.step c.in-Some.is (h same)) c.table_after.ensures.unfit
