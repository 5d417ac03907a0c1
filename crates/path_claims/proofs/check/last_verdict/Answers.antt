use Rattle.std.proofs.Common.{sym, subst, IfOk, Option}
use Rattle.problem_core.specs.declared.stops.Quantity.{Quantity}
use Rattle.path_claims.specs.PathClauses.{IsPathVerdict}
use Rattle.path_claims.proofs.LastSteps.{at_start_marks}
use Rattle.path_claims.proofs.check.last_verdict.Goals as goal

pub returns-in-Some-step : goal.returns-in-Some-step
returns-in-Some-step c =
    subst (λ (o : Option Quantity). IfOk c.verdict_after.result (IsPathVerdict c.args.case.p.now c.args.case.path.now o)) (sym c.in-Some.is) c.verdict_after.ensures

pub check_at_start-requires-clause-marks : goal.check_at_start-requires-clause-marks
check_at_start-requires-clause-marks c = at_start_marks c.args.case.p.now c.args.case.path.now c.args.case.outline.now c.args.walked.station c.requires.walked.arrived c.in-None.is
