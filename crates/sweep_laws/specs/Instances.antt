-- Sweeps of small problems: what is right there, and what isn't.
use Rattle.std.specs.Prelude.{ℕ, false, true, List, [], ◌∷◌, ℤ, pos, negsuc}
use Rattle.frac_core.specs.declared.frac.TheConstants.{PART_BOUND}
use Rattle.frac_core.specs.Fraction.{Fraction}
use Rattle.problem_core.specs.declared.parts.Mark.{Mark}
use Rattle.problem_core.specs.declared.parts.Rel.{Rel}
use Rattle.problem_core.specs.declared.parts.Rel.TheVariants.{Eq, Ge, Le}
use Rattle.problem_core.specs.declared.parts.RowName.TheVariants.{Held, Stay as StayOf}
use Rattle.problem_core.specs.declared.parts.Side.TheVariants.{Under, Over}
use Rattle.problem_core.specs.declared.parts.Stay.{Stay}
use Rattle.problem_core.specs.declared.parts.Term.{Term}
use Rattle.problem_core.specs.Layout.{Problem, Row}
use Rattle.problem_core.specs.Corners.{IsCorner}
use Rattle.problem_core.specs.Window.{zero_fraction}
use Rattle.cert_core.specs.declared.by.By.{By}
use Rattle.sweep_laws.specs.Fractions.{IsTooLarge}
use Rattle.sweep_laws.specs.Stops.{IsUnfitTurn, Turns}
use Rattle.sweep_laws.specs.Stretches.{Clash, IsRightConflict, IsRightPiece, IsSweep, Piece, Stretch}

-- so many points
abbrev pub points : ℕ → Fraction
points n = record { num = pos n; den = 1 }

-- a term of an attribute
abbrev pub term : ℕ → ℤ → Term
term attr by = record { attr = attr; by = by }

-- a row of rank, relation, constant and terms
abbrev pub row_of : ℕ → ℕ → Rel → Fraction → List Term → Row
row_of id rank rel constant terms = record {
  id = id;
  rank = rank;
  weight = 1;
  rel = rel;
  scale = 1;
  constant = constant;
  terms = terms;
}

-- the stay of an attribute
abbrev pub still : ℕ → Fraction → Stay
still attr target = record { attr = attr; target = target }

-- the window's width
abbrev pub width_row : ℕ → Row
width_row n = row_of 1 1000 Eq (points n) (term 1 (pos 1) ∷ [])

-- ---- a bend: the view is as wide as the window, but no wider than 150

abbrev pub bent : Problem
bent = record {
  rows = width_row 100 ∷ row_of 2 500 Eq zero_fraction (term 1 (negsuc 0) ∷ term 2 (pos 1) ∷ [])
      ∷ row_of 3 600 Le (points 150) (term 2 (pos 1) ∷ []) ∷ [];
  stays = still 1 (points 100) ∷ still 2 (points 100) ∷ [];
}

-- window and view
abbrev pub both : ℕ → ℕ → List (ℕ × Fraction)
both window view = (1, points window) ∷ (2, points view) ∷ []

-- the piece between these
abbrev pub piece : ℕ → ℕ → ℕ → ℕ → Stretch
piece a at_a b at_b = Piece (points a) (points b) (both a at_a) (both b at_b)

-- two pieces, one, or three of which one is a single width; cut elsewhere; from the greater width to the
-- lesser; with a gap
pub record SomeSweeps : Type 0 where
  pub two : IsSweep bent 1 (points 100) (points 200) (piece 100 100 150 150 ∷ piece 150 150 200 150 ∷ [])
  pub cut : IsSweep bent 1 (points 100) (points 200)
      (piece 100 100 120 120 ∷ piece 120 120 150 150 ∷ piece 150 150 200 150 ∷ [])
  pub single : IsSweep bent 1 (points 120) (points 120) (piece 120 120 120 120 ∷ [])
  pub straight : IsSweep bent 1 (points 100) (points 200) (piece 100 100 200 150 ∷ []) → ⊥
  pub late : IsSweep bent 1 (points 100) (points 200) (piece 100 100 160 150 ∷ piece 160 150 200 150 ∷ []) → ⊥
  pub short : IsSweep bent 1 (points 100) (points 200)
      (piece 100 100 150 150 ∷ piece 150 150 150 150 ∷ piece 150 150 200 150 ∷ []) → ⊥
  pub backwards : IsSweep bent 1 (points 200) (points 100) (piece 200 150 100 100 ∷ []) → ⊥
  pub gap : IsSweep bent 1 (points 100) (points 200) (piece 100 100 140 140 ∷ piece 150 150 200 150 ∷ []) → ⊥
  pub none : IsSweep bent 1 (points 100) (points 100) [] → ⊥

-- right at both ends, and wrong between
abbrev pub StraightIsWrong : Type 0
StraightIsWrong = IsRightPiece bent 1 (points 100) (points 200) (both 100 100) (both 200 150) → ⊥

-- ---- a narrow window: the view, 20 narrower, is to be at least 30 wide

abbrev pub narrow : Problem
narrow = record {
  rows = width_row 100 ∷ row_of 2 1000 Eq (points 20) (term 1 (pos 1) ∷ term 2 (negsuc 0) ∷ [])
      ∷ row_of 3 1000 Ge (points 30) (term 2 (pos 1) ∷ []) ∷ [];
  stays = still 1 (points 100) ∷ still 2 (points 80) ∷ [];
}

abbrev pub by_row : ℕ → ℤ → By
by_row id times = record { row = Held id; times = times }

-- the view's least width, its place in the window, less the window's width
abbrev pub narrow_by : List By
narrow_by = by_row 1 (negsuc 0) ∷ by_row 2 (pos 1) ∷ by_row 3 (pos 1) ∷ []

-- below 50 they refute it, at 50 they don't, and above it there is a piece. Where the conflict ends a piece
-- begins, which must not begin earlier; a conflict is not cut in two, and has no single width beside a piece
pub record SomeConflicts : Type 0 where
  pub below : IsRightConflict narrow 1 (points 40) (points 50) true false narrow_by
  pub at : IsRightConflict narrow 1 (points 40) (points 50) true true narrow_by → ⊥
  pub sweep : IsSweep narrow 1 (points 40) (points 80)
      (Clash (points 40) (points 50) narrow_by ∷ piece 50 30 80 60 ∷ [])
  pub edge : IsSweep narrow 1 (points 40) (points 50)
      (Clash (points 40) (points 50) narrow_by ∷ piece 50 30 50 30 ∷ [])
  pub alone : IsSweep narrow 1 (points 40) (points 45) (Clash (points 40) (points 45) narrow_by ∷ [])
  pub early : IsSweep narrow 1 (points 40) (points 80)
      (Clash (points 40) (points 49) narrow_by ∷ piece 49 29 80 60 ∷ []) → ⊥
  pub left_open : IsSweep narrow 1 (points 40) (points 50) (Clash (points 40) (points 50) narrow_by ∷ []) → ⊥
  pub twice : IsSweep narrow 1 (points 40) (points 45)
      (Clash (points 40) (points 42) narrow_by ∷ Clash (points 42) (points 45) narrow_by ∷ []) → ⊥
  pub split : IsSweep narrow 1 (points 40) (points 80)
      (Clash (points 40) (points 45) narrow_by ∷ Clash (points 45) (points 50) narrow_by
      ∷ piece 50 30 80 60 ∷ [])
      → ⊥
  pub pointed : IsSweep narrow 1 (points 50) (points 80)
      (Clash (points 50) (points 50) narrow_by ∷ piece 50 30 80 60 ∷ []) → ⊥

-- ---- a bounded view: 20 narrower than the window, it is to be at most 30 wide

abbrev pub bounded : Problem
bounded = record {
  rows = width_row 40 ∷ row_of 2 1000 Eq (points 20) (term 1 (pos 1) ∷ term 2 (negsuc 0) ∷ [])
      ∷ row_of 3 1000 Le (points 30) (term 2 (pos 1) ∷ []) ∷ [];
  stays = still 1 (points 40) ∷ still 2 (points 20) ∷ [];
}

-- the window's width, less the view's place in it and its greatest width
abbrev pub bounded_by : List By
bounded_by = by_row 1 (pos 1) ∷ by_row 2 (negsuc 0) ∷ by_row 3 (negsuc 0) ∷ []

-- above 50 they refute it, at 50 they don't, and below it there is a piece
pub record SomeBounded : Type 0 where
  pub above : IsRightConflict bounded 1 (points 50) (points 80) false true bounded_by
  pub at : IsRightConflict bounded 1 (points 50) (points 80) true true bounded_by → ⊥
  pub sweep : IsSweep bounded 1 (points 40) (points 80)
      (piece 40 20 50 30 ∷ Clash (points 50) (points 80) bounded_by ∷ [])
  pub swapped : IsSweep bounded 1 (points 40) (points 80)
      (Clash (points 50) (points 80) bounded_by ∷ piece 40 20 50 30 ∷ []) → ⊥

-- ---- turns

-- a part that just doesn't fit, and one that does
pub record SomeAreTooLarge : Type 0 where
  pub large : IsTooLarge (record { num = pos 1; den = PART_BOUND })
  pub small : IsTooLarge (record { num = pos 1; den = 3 }) → ⊥
  pub reducible : IsTooLarge (record { num = pos 2; den = PART_BOUND }) → ⊥

abbrev pub mark : ℕ → Mark
mark id = record { row = Held id; side = Under }

-- the mark of an attribute's stay
abbrev pub over_stay : ℕ → Mark
over_stay attr = record { row = StayOf attr; side = Over }

-- the corner where the view is as wide as the window: the window's stay, the view's, and row 3 are inside
abbrev pub as_wide : List Mark
as_wide = over_stay 1 ∷ over_stay 2 ∷ mark 3 ∷ []

-- the corner where each attribute is at its stay's target: the three rows are inside
abbrev pub at_stays : List Mark
at_stays = mark 1 ∷ mark 2 ∷ mark 3 ∷ []

-- row 3 turns at 150 alone; a mark that is 0 at each width turns nowhere, and neither does one that is the
-- same at each
pub record SomeTurn : Type 0 where
  pub corner : IsCorner bent as_wide
  pub at : Turns bent 1 as_wide (mark 3) (points 150)
  pub elsewhere : Turns bent 1 as_wide (mark 3) (points 151) → ⊥
  pub never : Turns bent 1 at_stays (mark 2) (points 150) → ⊥
  pub same : Turns bent 1 at_stays (mark 3) (points 150) → ⊥
  pub fits : IsUnfitTurn bent 1 (points 100) (points 200) as_wide (mark 3) → ⊥
