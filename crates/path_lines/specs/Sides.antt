-- The corners of a path, by which mark of each line is inside.
use Rattle.std.specs.Prelude.{◌≡◌, ◌↔◌, ◌⊎◌, ℕ, ◌<◌, List, [], ◌∷◌, map, set, All}
use Rattle.std.specs.Prelude.{Any, Option, None, Some}
use Rattle.problem_core.specs.declared.parts.Side.{Side}
use Rattle.problem_core.specs.declared.parts.Mark.{Mark}
use Rattle.problem_core.specs.Layout.{Problem}
use Rattle.problem_core.specs.Kept.{IsWhole}
use Rattle.problem_core.specs.Changes.Begins.{AreExchanges}
use Rattle.problem_core.specs.Corners.{ArePairwiseDifferent, IsCorner, Swap, corners}
use Rattle.path_lines.specs.declared.spots.Step.{Step}
use Rattle.path_lines.specs.Tables.{AreSides, line_count, swap_of}

-- the leaving line has no mark inside, and then the entering line has
abbrev pub moved_sides : Step → List (Option Side) → List (Option Side)
moved_sides step sides = set (set sides step.leave.at None) step.enter.at (Some step.enter.side)

-- after each of the exchanges
abbrev pub walk : List (Option Side) → List Step → List (List (Option Side))
walk sides [] = []
walk sides (step ∷ steps) = moved_sides step sides ∷ walk (moved_sides step sides) steps

-- both places of the exchange are among so many lines
abbrev pub IsWithin : ℕ → Step → Type 0
IsWithin count step = (step.enter.at < count) × (step.leave.at < count)

-- these are the swaps, by places
pub record AreSteps (p : Problem) (swaps : List Swap) (steps : List Step) : Type 0 where
  pub swaps_are : map (swap_of p) steps ≡ swaps
  pub within : All (IsWithin (line_count p)) steps

-- one of them comes again
abbrev pub ComesTwice : List (Option Side) → List Step → Type 0
ComesTwice sides [] = ⊥
ComesTwice sides (step ∷ steps) = Any (λ next. next ≡ sides) (walk sides (step ∷ steps))
    ⊎ ComesTwice (moved_sides step sides) steps

-- no corner comes twice exactly if, with the exchanges by places, none of these comes twice
abbrev pub ApartBySides : Type 0
ApartBySides = (p : Problem) (at : List Mark) (sides : List (Option Side)) (steps : List Step) → IsWhole p
    → IsCorner p at → AreSides p at sides → All (IsWithin (line_count p)) steps
    → AreExchanges p at (map (swap_of p) steps)
    → (ComesTwice sides steps → ⊥) ↔ ArePairwiseDifferent (corners at (map (swap_of p) steps))
