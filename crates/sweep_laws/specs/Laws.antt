-- The laws of a row's constant that slides at a corner, and of what a sweep says.
use Rattle.std.specs.Prelude.{◌≡◌, ◌⊎◌, ◌<◌, ◌+◌, ◌*◌, ℕ, true, List, [], ◌∷◌, pos, ◌+ℤ◌, ◌*ℤ◌, ◌<ℤ◌, Any}
use Rattle.frac_core.specs.Fraction.{Fraction, IsLowest}
use Rattle.problem_core.specs.declared.parts.Mark.{Mark}
use Rattle.problem_core.specs.Layout.{Assignment, Gives, IsBest, Problem}
use Rattle.problem_core.specs.Kept.{IsWhole}
use Rattle.problem_core.specs.Corners.{IsCorner, NoNegativeColumn, NoNegativeValue}
use Rattle.problem_core.specs.Corners.{Point, StandsAt, Swap, assignment_at, exchanged, one_column, place}
use Rattle.problem_core.specs.Levels.{CostsAbove, cost_at}
use Rattle.problem_core.specs.Changes.Paths.{ArePathSwaps}
use Rattle.cert_core.specs.declared.by.By.{By}
use Rattle.cert_core.specs.Stops.{IsShownConflict}
use Rattle.corner_lines.specs.Shifts.{AreSeenAlike, with_constant}
use Rattle.sweep_laws.specs.Fractions.{IsLess, IsNoMore}
use Rattle.sweep_laws.specs.Stretches.{AreAllValues, Clash, Cover, IsRightPiece, IsSweep, Piece, Stretch}

-- ---- one row's constant

-- the last constant stands
abbrev pub LastConstantStands : Type 0
LastConstantStands = (p : Problem) (row : ℕ) (a b : Fraction)
    → with_constant row a (with_constant row b p) ≡ with_constant row a p

-- only the constant is another
abbrev pub ConstantsAreSeenAlike : Type 0
ConstantsAreSeenAlike = (p : Problem) (row : ℕ) (a b : Fraction)
    → AreSeenAlike (with_constant row a p) (with_constant row b p)

-- the marks are a corner with one constant if they are with another
abbrev pub CornerAtEach : Type 0
CornerAtEach = (p : Problem) (row : ℕ) (at : List Mark) (a b : Fraction) → IsWhole p → 0 < a.den → 0 < b.den
    → IsCorner (with_constant row a p) at → IsCorner (with_constant row b p) at

-- and columns that aren't negative with one constant aren't with another
abbrev pub ColumnsAtEach : Type 0
ColumnsAtEach = (p : Problem) (row : ℕ) (at : List Mark) (a b : Fraction)
    → NoNegativeColumn (with_constant row a p) at → NoNegativeColumn (with_constant row b p) at

-- ---- between two constants

-- w is between a and b: `near` of the way from a to b and `far` of it back, both not negative, together not 0
pub record Mixes (a b w : Fraction) (near far : ℕ) : Type 0 where
  pub some : 0 < far + near
  pub is : w.num *ℤ pos ((far + near) * (a.den * b.den))
      ≡ (pos far *ℤ a.num *ℤ pos b.den +ℤ pos near *ℤ b.num *ℤ pos a.den) *ℤ pos w.den

-- the point that is so far between the two
pub record IsMix (x y : Point) (near far : ℕ) (z : Point) : Type 0 where
  pub each : (c : ℕ) → z.num c ≡ (pos far *ℤ y.num one_column) *ℤ x.num c
      +ℤ (pos near *ℤ x.num one_column) *ℤ y.num c

-- each constant between two mixes them
abbrev pub BetweenMixes : Type 0
BetweenMixes = (a b w : Fraction) → 0 < a.den → 0 < b.den → 0 < w.den → IsNoMore a w → IsNoMore w b
    → (near : ℕ) × (far : ℕ) × Mixes a b w near far

-- the mix of the points that stand at a corner with two constants stands there with the constant that mixes
-- these
abbrev pub MixStands : Type 0
MixStands = (p : Problem) (row : ℕ) (at : List Mark) (a b w : Fraction) (near far : ℕ) (x y z : Point)
    → 0 < a.den → 0 < b.den → Mixes a b w near far
    → StandsAt (with_constant row a p) at x → StandsAt (with_constant row b p) at y → IsMix x y near far z
    → StandsAt (with_constant row w p) at z

-- no value is negative between where none is at both
abbrev pub ValuesBetween : Type 0
ValuesBetween = (p : Problem) (row : ℕ) (at : List Mark) (a b w : Fraction) → 0 < a.den → 0 < b.den
    → 0 < w.den → IsNoMore a w → IsNoMore w b → NoNegativeValue (with_constant row a p) at
    → NoNegativeValue (with_constant row b p) at → NoNegativeValue (with_constant row w p) at

-- where the required rows cost nothing at both they don't between
abbrev pub CostsBetween : Type 0
CostsBetween = (p : Problem) (row : ℕ) (at : List Mark) (a b w : Fraction) → IsWhole p → 0 < a.den
    → 0 < b.den → 0 < w.den → IsNoMore a w → IsNoMore w b → IsCorner (with_constant row a p) at
    → (CostsAbove (with_constant row a p) at 0 → ⊥) → (CostsAbove (with_constant row b p) at 0 → ⊥)
    → CostsAbove (with_constant row w p) at 0 → ⊥

-- where they cost nothing at one constant and something at another, they do at each beyond the first
abbrev pub CostsBeyond : Type 0
CostsBeyond = (p : Problem) (row : ℕ) (at : List Mark) (a b w : Fraction) → 0 < a.den → 0 < b.den
    → 0 < w.den → (IsLess a w × IsNoMore w b) ⊎ (IsNoMore b w × IsLess w a)
    → (x : Point) → StandsAt (with_constant row a p) at x → cost_at p 0 x.num ≡ pos 0
    → CostsAbove (with_constant row b p) at 0 → CostsAbove (with_constant row w p) at 0

-- ---- paths

-- the mark's value at the corner is above 0
abbrev pub HasPositiveValue : Problem → List Mark → Mark → Type 0
HasPositiveValue p at mark = (x : Point) × StandsAt p at x × (pos 0 <ℤ x.num (place mark))

-- at each corner along them the leaving mark isn't above 0 with this constant any more, and the required rows
-- cost nothing
abbrev pub LeavesAt : Problem → List Mark → List Swap → Type 0
LeavesAt p at [] = Unit {0}
LeavesAt p at (s ∷ swaps) = (HasPositiveValue p at s.leave → ⊥) × (CostsAbove p at 0 → ⊥)
    × LeavesAt p (exchanged s at) swaps

-- a lawful path with the end's constant, at whose corners no leaving mark is above 0 at w and the required
-- rows cost nothing there, is lawful with each constant beyond w
abbrev pub PathFarther : Type 0
PathFarther = (p : Problem) (row : ℕ) (at : List Mark) (swaps : List Swap) (w x end : Fraction) → IsWhole p
    → 0 < w.den → 0 < x.den → 0 < end.den
    → (IsLess w x × IsNoMore x end) ⊎ (IsNoMore end x × IsLess x w) → IsCorner (with_constant row end p) at
    → ArePathSwaps true (with_constant row end p) at swaps → LeavesAt (with_constant row w p) at swaps
    → ArePathSwaps true (with_constant row x p) at swaps

-- ---- what a stretch is by its ends

-- where a corner's values aren't negative at both ends, nor its columns, and the required rows cost nothing
-- there, the piece between the corner's values is right
abbrev pub CornerIsPiece : Type 0
CornerIsPiece = (p : Problem) (row : ℕ) (at : List Mark) (a b : Fraction) (x y : Point)
    (low high : List (ℕ × Fraction)) → IsWhole p → IsLowest a → IsLowest b → IsNoMore a b
    → IsCorner (with_constant row a p) at → NoNegativeColumn (with_constant row a p) at
    → StandsAt (with_constant row a p) at x → StandsAt (with_constant row b p) at y
    → NoNegativeValue (with_constant row a p) at → NoNegativeValue (with_constant row b p) at
    → (CostsAbove (with_constant row a p) at 0 → ⊥) → (CostsAbove (with_constant row b p) at 0 → ⊥)
    → AreAllValues p low → Gives low (assignment_at x) → AreAllValues p high → Gives high (assignment_at y)
    → IsRightPiece p row a b low high

-- ---- what a sweep says

-- each constant between the ends is in some stretch
abbrev pub IsInStretch : Fraction → Stretch → Type 0
IsInStretch w (Piece from to low high) = IsNoMore from w × IsNoMore w to
IsInStretch w (Clash from to by) = IsNoMore from w × IsNoMore w to

abbrev pub SweepCovers : Type 0
SweepCovers = (from to w : Fraction) (stretches : List Stretch) → Cover from to stretches → IsNoMore from w
    → IsNoMore w to → Any (IsInStretch w) stretches

-- for each constant between the two there is the one best layout, or it is in conflict
abbrev pub SweepDecides : Type 0
SweepDecides = (p : Problem) (row : ℕ) (from to w : Fraction) (stretches : List Stretch)
    → IsSweep p row from to stretches → IsLowest w → IsNoMore from w → IsNoMore w to
    → ((x : Assignment) × IsBest (with_constant row w p) x)
    ⊎ ((by : List By) × IsShownConflict (with_constant row w p) by)
