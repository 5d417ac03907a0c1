-- What stops the making of a sum.
use Rattle.frac_core.specs.declared.frac.Unfit.{Unfit}
use Rattle.frac_core.specs.declared.memory.Stop.{Stop}

-- a part in lowest terms does not fit, or memory has run out
abbrev pub SumStop : Type 0
SumStop = Stop Unfit
