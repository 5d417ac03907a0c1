use Rattle.path_lines.proofs.Exchanges.Leading.{ok_then}
use Rattle.path_claims.proofs.Results.{err_says, ok_says}
use Rattle.path_claims.proofs.LastSteps.{found_there, no_room_then, no_room_there}
use Rattle.path_claims.proofs.check.verdict_there.Goals as goal

pub returns-in-Err : goal.returns-in-Err
returns-in-Err c =
    ok_then c.ended.result (λ v is. no_room_then c.args.case.p.now c.args.case.path.now c.in-Err.stop c.args.walked.station.count v (λ other.
    let told = c.in-Err.ensures.stop other in (
      told.0,
      no_room_there c.args.case c.args.walked c.requires.case c.requires.walked (err_says _ c.table_now.result _ told.1 c.table_now.ensures.unfit tt),
    )) is) c.ended.ensures

pub returns : goal.returns
returns c =
    c.verdict.ensures c.args.case.p.now c.args.case.path.now _
    (found_there c.args.case c.args.walked c.in-Ok.table c.is_sound_there.result c.args.walked.station.count c.requires.case c.requires.walked
    (ok_says _ c.table_now.result c.in-Ok.table c.in-Ok.ensures.ok c.table_now.ensures.table) c.is_sound_there.ensures)
