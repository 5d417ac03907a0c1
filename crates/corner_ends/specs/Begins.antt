-- The exchanges of a run, and where it began.
use Rattle.std.specs.Prelude.{List, [], ◌∷◌}
use Rattle.problem_core.specs.declared.parts.Mark.{Mark}
use Rattle.problem_core.specs.Corners.{IsIn, SameMarks, Swap, exchanged, place}
use Rattle.problem_core.specs.Changes.Paths.{last_marks}

-- each exchange takes in a mark that is outside, and out one that is inside
abbrev pub AreExchanges : List Mark → List Swap → Type 0
AreExchanges at [] = Unit {0}
AreExchanges at (s ∷ swaps) = (IsIn (place s.enter) at → ⊥) × IsIn (place s.leave) at
    × AreExchanges (exchanged s at) swaps

-- the exchanges lead from the first marks to these
pub record HasExchanged (first : List Mark) (swaps : List Swap) (at : List Mark) : Type 0 where
  pub swapped : AreExchanges first swaps
  pub here : SameMarks (last_marks first swaps) at
