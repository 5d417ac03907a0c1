use Rattle.std.proofs.Common.{take, drop, ◌≤◌}
use Rattle.path_claims.specs.Journeys.{IsJourneyAt, IsUsableJourney}
use Rattle.path_claims.proofs.journey.to_first.Given as goal

abbrev pub invariant-loop-mark : goal.invariant-loop-mark
invariant-loop-mark l = record {
  usable : IsUsableJourney l.case.p.now l.case.outline.now l.journey;
  count : l.journey.station.count ≤ l.mark-index;
  journey : IsJourneyAt l.case.p.now l.case.path.now l.case.outline.now (take l.mark-index l.case.path.now.corner) (drop l.mark-index l.case.path.now.corner) l.journey;
}
