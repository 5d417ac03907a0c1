-- What stops a change of a corner's tableau.
use Rattle.frac_core.specs.declared.memory.Stop.{Stop}
use Rattle.problem_core.specs.declared.stops.Quantity.{Quantity}

-- a quantity that does not fit, or want of memory
abbrev pub TableStop : Type 0
TableStop = Stop Quantity
