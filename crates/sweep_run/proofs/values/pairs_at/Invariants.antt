use Rattle.std.proofs.Common.{take}
use Rattle.corner_lines.specs.Shifts.{with_constant}
use Rattle.sweep_run.specs.Values.{AreListed}
use Rattle.sweep_run.proofs.values.pairs_at.Given as goal

abbrev pub invariant-loop-attr : goal.invariant-loop-attr
invariant-loop-attr g l = AreListed (with_constant l.way.row l.place.width l.c.problem) l.c.marks (take l.attr-index l.attrs) l.out.items
