-- The mark that leaves, and the lines that are listed twice.
use Rattle.std.specs.Prelude.{◌≡◌, ◌<◌, ◌-◌, ℕ, List, slice_index_or}
use Rattle.problem_core.specs.declared.parts.Mark.{Mark}
use Rattle.problem_core.specs.declared.parts.RowName.{RowName}
use Rattle.problem_core.specs.Layout.{Problem}
use Rattle.dual_run.specs.declared.leaving.Low.{Low}
use Rattle.dual_run.specs.Leaving.{IsLow}

-- its mark is inside, and the value of that is negative
abbrev pub IsFoundLow : Problem → List Mark → Low → Type 0
IsFoundLow p at f = IsLow p at f.mark

-- the line before the one at this place is the same
abbrev pub IsTwice : List RowName → ℕ → Type 0
IsTwice names i = (0 < i) × ((d : RowName) → slice_index_or names (i - 1) d ≡ slice_index_or names i d)
