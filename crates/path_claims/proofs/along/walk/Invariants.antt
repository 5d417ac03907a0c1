use Rattle.path_claims.proofs.AlongSteps.{IsWalkedTo}
use Rattle.path_claims.proofs.along.walk.Given as goal

abbrev pub invariant-loop-step : goal.invariant-loop-step
invariant-loop-step l = IsWalkedTo l.case.p.now l.case.path.now l.case.outline.now l.step-index l.station l.sound l.called
