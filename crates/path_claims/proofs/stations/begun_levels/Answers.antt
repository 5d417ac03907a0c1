use Rattle.std.proofs.Common.{subst}
use Rattle.path_levels.specs.Rows.{IsLevelsStop}
use Rattle.path_claims.proofs.StationTables.{rows_unfit}
use Rattle.path_claims.proofs.stations.begun_levels.Goals as goal

pub returns-in-Ok-clause-levels : goal.returns-in-Ok-clause-levels
returns-in-Ok-clause-levels c = c.in-Ok.ensures.levels c.args.p.now _ c.requires.kept

pub returns-in-Err-Refused-clause-unfit : goal.returns-in-Err-Refused-clause-unfit
returns-in-Err-Refused-clause-unfit c = λ same.
    rows_unfit c.args.p.now c.args.corner _ _ c.requires.kept (subst (IsLevelsStop c.args.corner) c.in-Err-Refused.field-0-is c.in-Err-Refused.ensures.unfit)
