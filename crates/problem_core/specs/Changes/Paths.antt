-- Paths of exchanges, primal and dual.
use Rattle.std.specs.Prelude.{◌⊎◌, Bool, true, false, List, [], ◌∷◌, pos, ◌≤ℤ◌, All}
use Rattle.problem_core.specs.declared.parts.Side.{Side}
use Rattle.problem_core.specs.declared.parts.Mark.{Mark}
use Rattle.problem_core.specs.Layout.{Problem, lines}
use Rattle.problem_core.specs.Certificates.{Multipliers}
use Rattle.problem_core.specs.Corners.{ArePairwiseDifferent, AreMultipliersAt, HasNegativeColumn}
use Rattle.problem_core.specs.Corners.{HasNegativeValue, IsCorner, IsExchange, NoNegativeColumn}
use Rattle.problem_core.specs.Corners.{NoNegativeValue, Swap, column, corners, exchanged}
use Rattle.problem_core.specs.Levels.{CostsAbove}

-- no column is negative at the level of the required rows
abbrev pub NoNegativeRequired : Problem → List Mark → Type 0
NoNegativeRequired p at = (m : Multipliers) × AreMultipliersAt p at m
    × ((side : Side) → All (λ l. pos 0 ≤ℤ column m side l 0) (lines p))

-- what holds at each corner of a path: of a dual one that no column is negative, of a primal one that no
-- value is
abbrev pub IsSound : Bool → Problem → List Mark → Type 0
IsSound true p at = NoNegativeColumn p at
IsSound false p at = NoNegativeValue p at

-- where a path may end: at best values, or where the required rows cannot be satisfied
abbrev pub IsEndOf : Bool → Problem → List Mark → Type 0
IsEndOf true p at = NoNegativeValue p at ⊎ CostsAbove p at 0
IsEndOf false p at = NoNegativeColumn p at ⊎ (CostsAbove p at 0 × NoNegativeRequired p at)

-- a dual path takes out a mark whose value is negative, a primal one brings in a mark whose column is
abbrev pub MaySwap : Bool → Problem → List Mark → Swap → Type 0
MaySwap true p at s = HasNegativeValue p at s.leave
MaySwap false p at s = HasNegativeColumn p at s.enter

-- each corner along them is sound, none before the last is an end, and the path may make each exchange
abbrev pub ArePathSwaps : Bool → Problem → List Mark → List Swap → Type 0
ArePathSwaps dual p at [] = IsSound dual p at
ArePathSwaps dual p at (s ∷ swaps) = IsSound dual p at × (IsEndOf dual p at → ⊥) × IsExchange p at s
    × MaySwap dual p at s × ArePathSwaps dual p (exchanged s at) swaps

-- a lawful path: no corner comes twice, and none before the last is an end
pub record IsPath (dual : Bool) (p : Problem) (at : List Mark) (swaps : List Swap) : Type 0 where
  pub corner : IsCorner p at
  pub apart : ArePairwiseDifferent (corners at swaps)
  pub lawful : ArePathSwaps dual p at swaps

-- the marks after the exchanges
abbrev pub last_marks : List Mark → List Swap → List Mark
last_marks at [] = at
last_marks at (s ∷ swaps) = last_marks (exchanged s at) swaps
