-- Which marks may leave, and the lines among which they are.
use Rattle.std.specs.Prelude.{◌≡◌, ◌⊎◌, ◌++◌, ◌∷◌, [], List, All, Contains, true}
use Rattle.problem_core.specs.declared.parts.Mark.{Mark}
use Rattle.problem_core.specs.declared.parts.RowName.{RowName}
use Rattle.problem_core.specs.declared.parts.Side.{Side}
use Rattle.problem_core.specs.Layout.{Problem}
use Rattle.problem_core.specs.Corners.{HasNegativeValue, IsIn, place}
use Rattle.problem_core.specs.Changes.Paths.{IsEndOf}
use Rattle.corner_view.specs.Seen.{IsNamed}
use Rattle.corner_ends.specs.Trails.{Trail}
use Rattle.corner_view.specs.Lows.{ListsLow}

-- the mark is inside, and its value is negative
pub record IsLow (p : Problem) (at : List Mark) (m : Mark) : Type 0 where
  pub inside : IsIn (place m) at
  pub value : HasNegativeValue p at m

-- neither mark of the line has a negative value
abbrev pub HasNoLow : Problem → List Mark → RowName → Type 0
HasNoLow p at name = (side : Side) → HasNegativeValue p at (record { row = name; side = side }) → ⊥

-- the corner is no end, and the inside mark's value is negative
pub record MayLeave (p : Problem) (at : List Mark) (m : Mark) : Type 0 where
  pub no_end : IsEndOf true p at → ⊥
  pub low : IsLow p at m

-- these are lines of the problem, and each inside mark with a negative value is of one of them
pub record AreLowLines (p : Problem) (at : List Mark) (names : List RowName) : Type 0 where
  pub named : All (IsNamed p) names
  pub low : (m : Mark) → IsLow p at m → Contains names m.row

-- after an exchange between marks of two lines those of the entering one's and of the leaving one's are
-- listed; after a turn none is
abbrev pub ListsSwapped : Problem → List Mark → RowName → RowName → List RowName → List RowName → Type 0
ListsSwapped p at enter leave old new = ((enter ≡ leave) × (new ≡ old))
    ⊎ ((mid : List RowName) × ListsLow p at enter old mid × ListsLow p at leave mid new)

-- the new trail has one exchange more, in which this mark left
abbrev pub HasSwapped : Trail → Mark → Trail → Type 0
HasSwapped old leave new = (enter : Mark)
    × (new.swaps ≡ old.swaps ++ record { enter = enter; leave = leave } ∷ [])
