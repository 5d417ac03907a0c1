use Rattle.corner_leaving.proofs.Removals.LeavingUnits.{IsUnitTo}
use Rattle.corner_leaving.proofs.leaving.rest_unit.Given as goal

abbrev pub invariant-loop-row : goal.invariant-loop-row
invariant-loop-row l = IsUnitTo l.leaver l.row-items l.row-index l.unit
