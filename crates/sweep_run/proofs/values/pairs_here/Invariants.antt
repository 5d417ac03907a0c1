use Rattle.std.proofs.Common.{take}
use Rattle.sweep_run.specs.Values.{AreListed}
use Rattle.sweep_run.proofs.values.pairs_here.Given as goal

abbrev pub invariant-loop-attr : goal.invariant-loop-attr
invariant-loop-attr g l = AreListed l.c.problem l.c.marks (take l.attr-index l.attrs) l.out.items
