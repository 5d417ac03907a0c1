-- Why a text was not read.
use Rattle.std.specs.Prelude.{ℕ}
use Rattle.frac_core.specs.declared.memory.Stop.{Stop}
use Rattle.frac_core.specs.declared.memory.Stop.TheVariants.{Refused}
use Rattle.problem_reading.specs.declared.stops.BadLine.{BadLine}

-- a line is outside the form, or memory is wanting
abbrev pub ReadStop : Type 0
ReadStop = Stop BadLine

-- the first line outside the form is the n-th, counted from 1
abbrev pub bad_line : ℕ → ReadStop
bad_line n = Refused (record { 0 = n })
