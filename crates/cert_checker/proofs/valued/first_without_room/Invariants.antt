use Rattle.std.proofs.Common.{take}
use Rattle.cert_checker.specs.Certifying.{HaveGapRoom}
use Rattle.cert_checker.proofs.valued.first_without_room.Given as goal

abbrev pub invariant-loop-row : goal.invariant-loop-row
invariant-loop-row l = HaveGapRoom (take l.row-index l.fn.p.rows) l.fn.values
