-- What does not fit where a corner changes.
use Rattle.std.specs.Prelude.{List}
use Rattle.problem_core.specs.declared.parts.Mark.{Mark}
use Rattle.problem_core.specs.declared.stops.Quantity.TheVariants.{Plain, Terms, Rows, Shifts}
use Rattle.problem_core.specs.Changes.Stops.{TableStop}
use Rattle.frac_core.specs.declared.memory.Stop.TheVariants.{Refused, OutOfMemory as NoMemory}
use Rattle.problem_core.specs.Layout.{Problem}
use Rattle.problem_core.specs.Unfit.{IsUnfitWhat}

-- want of memory, or a quantity of the problem that does not fit at these marks
abbrev pub IsUnfitStop : Problem → List Mark → TableStop → Type 0
IsUnfitStop p marks (Refused (Plain what)) = IsUnfitWhat p marks what
IsUnfitStop p marks (Refused (Terms mark j)) = ⊥
IsUnfitStop p marks (Refused (Rows level j)) = ⊥
IsUnfitStop p marks (Refused (Shifts what j)) = ⊥
IsUnfitStop p marks NoMemory = Unit {0}
