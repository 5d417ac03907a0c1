-- The search for the exchange on the way to a path's first corner, by the kept lines.
use Rattle.std.specs.Prelude.{List, ℕ, Option}
use Rattle.problem_core.specs.declared.parts.Side.{Side}
use Rattle.problem_core.specs.declared.parts.Mark.{Mark}
use Rattle.problem_core.specs.Layout.{Problem}
use Rattle.path_lines.specs.declared.spots.Spot.{Spot}
use Rattle.path_lines.specs.declared.spots.Step.{Step}
use Rattle.path_lines.specs.declared.table.Inside.{Inside}
use Rattle.path_lines.specs.Tables.{AreLines, AreSides, IsThere, mark_of, swap_of}
use Rattle.path_lines.specs.Route.{GivesWay, MayGiveWay}

-- the lines are kept at the corner, and these marks are wanted
pub record AreOnWay (p : Problem) (wanted at : List Mark) (kept : List (Option Inside))
    (sides : List (Option Side)) : Type 0 where
  pub there : IsThere p at
  pub lines_are : AreLines p at kept
  pub sides_are : AreSides p wanted sides

-- the exchange may bring it in
abbrev pub MayGive : List (Option Inside) → List (Option Side) → Step → Type 0
MayGive kept sides step = (p : Problem) (wanted at : List Mark) → AreOnWay p wanted at kept sides
    → MayGiveWay p wanted at (swap_of p step)

-- no mark of the line gives way
abbrev pub NoneGives : List (Option Inside) → List (Option Side) → Spot → ℕ → Type 0
NoneGives kept sides enter k = (p : Problem) (wanted at : List Mark) (side : Side)
    → AreOnWay p wanted at kept sides → MayGiveWay p wanted at
    (record { enter = mark_of p enter; leave = mark_of p (record { at = k; side = side }) }) → ⊥

-- the exchange brings its entering mark in
abbrev pub IsBringing : List (Option Inside) → List (Option Side) → Step → Type 0
IsBringing kept sides step = (p : Problem) (wanted at : List Mark) → AreOnWay p wanted at kept sides
    → GivesWay p wanted at (swap_of p step)

-- no mark at all gives way
abbrev pub NothingBrings : List (Option Inside) → List (Option Side) → Spot → Type 0
NothingBrings kept sides enter = (p : Problem) (wanted at : List Mark) (m : Mark)
    → AreOnWay p wanted at kept sides
    → MayGiveWay p wanted at (record { enter = mark_of p enter; leave = m }) → ⊥
