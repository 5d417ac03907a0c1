use Rattle.std.proofs.Common.{take}
use Rattle.diagnosis.specs.Unmet.{AreUnmet}
use Rattle.diagnosis.proofs.lacking.unmet.Given as goal

abbrev pub invariant-loop-row : goal.invariant-loop-row
invariant-loop-row g l = AreUnmet (take l.row-index l.e.problem.rows) l.e.values l.out.items
