use Rattle.sweep_run.proofs.Found.{IsFarthest}
use Rattle.sweep_run.proofs.rates.soonest.Given as goal

abbrev pub invariant-loop-line : goal.invariant-loop-line
invariant-loop-line g l = IsFarthest l.c l.way l.low l.line-index l.found
