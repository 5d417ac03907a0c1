use Rattle.std.proofs.Common.{take, ◌++◌}
use Rattle.certificates.proofs.Numbers.{Read, row_names, stay_names}
use Rattle.certificates.proofs.times.times.Given as goal

abbrev pub invariant-loop-row : goal.invariant-loop-row
invariant-loop-row g l = Read l.c.problem l.c.marks l.level (row_names (take l.row-index l.c.problem.rows)) l.out.items

abbrev pub invariant-loop-stay : goal.invariant-loop-stay
invariant-loop-stay g l = Read l.c.problem l.c.marks l.level (row_names l.c.problem.rows ++ stay_names (take l.stay-index l.c.problem.stays)) l.out.items
