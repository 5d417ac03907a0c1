use Rattle.std.proofs.Common.{take}
use Rattle.certificates.proofs.CornerLevels.{Own}
use Rattle.certificates.proofs.levels.certificate.Given as goal

abbrev pub invariant-loop-level : goal.invariant-loop-level
invariant-loop-level g l = Own l.c.problem l.c.marks (take l.level-index l.level-items) l.best
