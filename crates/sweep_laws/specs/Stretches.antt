-- What is best for every constant of a row between two.
use Rattle.std.specs.Prelude.{◌≡◌, ◌<◌, ◌≤◌, ◌⊎◌, ℕ, Bool, true, false, List, [], ◌∷◌, ◌++◌, length, map}
use Rattle.std.specs.Prelude.{pos, All}
use Rattle.frac_core.specs.Fraction.{Fraction, IsKept, IsLowest, IsRatio, sum_den, sum_num}
use Rattle.problem_core.specs.Layout.{Assignment, Gives, IsBest, Problem}
use Rattle.problem_core.specs.Numbers.{AreNumbersOf}
use Rattle.cert_core.specs.declared.by.By.{By}
use Rattle.cert_core.specs.Stops.{IsShownConflict}
use Rattle.corner_lines.specs.Shifts.{with_constant}
use Rattle.sweep_laws.specs.Fractions.{IsLess, IsNoMore, along, difference}

-- a value for each attribute of the problem, by number, in lowest terms that fit
pub record AreAllValues (p : Problem) (values : List (ℕ × Fraction)) : Type 0 where
  pub attributes : AreNumbersOf p.stays (map (λ v. v.0) values)
  pub kept : All (λ v. IsKept v.1) values

-- the attributes, and how much each grows with the constant
abbrev pub Rates : Type 0
Rates = List (ℕ × Fraction)

-- the value of the one attribute, from `low` on, so much further
abbrev pub moved_value : Fraction → (ℕ × Fraction) → (ℕ × Fraction) → (ℕ × Fraction)
moved_value by low rate = (low.0, along low.1 rate.1 by)

-- all values, so much further
abbrev pub moved_values : Fraction → List (ℕ × Fraction) → Rates → List (ℕ × Fraction)
moved_values by [] rates = []
moved_values by (v ∷ vs) [] = []
moved_values by (v ∷ vs) (r ∷ rs) = moved_value by v r ∷ moved_values by vs rs

-- the second values are the first ones so much further
abbrev pub IsMovedTo : Fraction → (ℕ × Fraction) → (ℕ × Fraction) → (ℕ × Fraction) → Type 0
IsMovedTo by low rate high = (low.0 ≡ high.0) × (low.0 ≡ rate.0)
    × IsRatio high.1 (sum_num low.1 rate.1.num (pos rate.1.den) by) (sum_den low.1 (pos rate.1.den) by)

abbrev pub AreMovedTo : Fraction → List (ℕ × Fraction) → Rates → List (ℕ × Fraction) → Type 0
AreMovedTo by [] [] [] = Unit {0}
AreMovedTo by (v ∷ vs) (r ∷ rs) (w ∷ ws) = IsMovedTo by v r w × AreMovedTo by vs rs ws
AreMovedTo by low rates high = ⊥

-- with this constant of the row, the values are the best, `low` and so much of the rates
abbrev pub IsBestAt : Problem → ℕ → Fraction → List (ℕ × Fraction) → Rates → Fraction → Type 0
IsBestAt p row from low rates w = (x : Assignment) × IsBest (with_constant row w p) x
    × Gives (moved_values (difference w from) low rates) x

-- two fractions, of which the first is no greater
pub record IsUpwards (from to : Fraction) : Type 0 where
  pub first : IsLowest from
  pub last : IsLowest to
  pub rises : IsNoMore from to

-- from one constant to another the best values lie on a line
pub record IsRightPiece (p : Problem) (row : ℕ) (from to : Fraction) (low high : List (ℕ × Fraction))
    : Type 0 where
  pub upwards : IsUpwards from to
  pub are_low : AreAllValues p low
  pub are_high : AreAllValues p high
  pub rates : Rates
  pub are_fractions : All (λ r. 0 < r.1.den) rates
  pub ends : AreMovedTo (difference to from) low rates high
  pub each : (w : Fraction) → IsLowest w → IsNoMore from w → IsNoMore w to → IsBestAt p row from low rates w

-- w is between them, and not one of them but where that one counts
pub record IsWithin (from to : Fraction) (first last : Bool) (w : Fraction) : Type 0 where
  pub lower : IsNoMore from w
  pub upper : IsNoMore w to
  pub not_first : first ≡ false → IsLess from w
  pub not_last : last ≡ false → IsLess w to

-- the multipliers refute the required rows with each constant from the one to the other
pub record IsRightConflict (p : Problem) (row : ℕ) (from to : Fraction) (first last : Bool) (by : List By)
    : Type 0 where
  pub upwards : IsUpwards from to
  pub each : (w : Fraction) → IsLowest w → IsWithin from to first last w
      → IsShownConflict (with_constant row w p) by

-- a piece with the values at its ends, or a conflict with its multipliers
pub data Stretch : Type 0 where
  Piece : Fraction → Fraction → List (ℕ × Fraction) → List (ℕ × Fraction) → Stretch
  Clash : Fraction → Fraction → List By → Stretch

abbrev pub start_of : Stretch → Fraction
start_of (Piece from to low high) = from
start_of (Clash from to by) = from

abbrev pub end_of : Stretch → Fraction
end_of (Piece from to low high) = to
end_of (Clash from to by) = to

-- the first of these is no piece: so an end that is shared with it counts
abbrev pub no_piece_first : List Stretch → Bool
no_piece_first [] = true
no_piece_first (Piece from to low high ∷ rest) = false
no_piece_first (Clash from to by ∷ rest) = true

-- each is right; `counts` says whether the first one's start counts
abbrev pub AreRight : Problem → ℕ → Bool → List Stretch → Type 0
AreRight p row counts [] = Unit {0}
AreRight p row counts (Piece from to low high ∷ rest) = IsRightPiece p row from to low high
    × AreRight p row false rest
AreRight p row counts (Clash from to by ∷ rest) =
    IsRightConflict p row from to counts (no_piece_first rest) by × AreRight p row true rest

-- the first begins at `from`, each other where the one before ends, and the last ends at `to`
abbrev pub Cover : Fraction → Fraction → List Stretch → Type 0
Cover from to [] = ⊥
Cover from to (s ∷ []) = (start_of s ≡ from) × (end_of s ≡ to)
Cover from to (s ∷ t ∷ rest) = (start_of s ≡ from) × Cover (end_of s) to (t ∷ rest)

abbrev pub IsPieceOf : Stretch → Type 0
IsPieceOf (Piece from to low high) = Unit {0}
IsPieceOf (Clash from to by) = ⊥

abbrev pub IsClash : Stretch → Type 0
IsClash (Piece from to low high) = ⊥
IsClash (Clash from to by) = Unit {0}

-- its start is below its end
abbrev pub IsLong : Stretch → Type 0
IsLong s = IsLess (start_of s) (end_of s)

-- pieces, with at most one conflict before and one behind, which never follow each other. None is a single
-- constant, but a piece that is the only one and a conflict that is the only stretch.
pub record IsInForm (stretches : List Stretch) : Type 0 where
  pub before : List Stretch
  pub pieces : List Stretch
  pub behind : List Stretch
  pub parts : stretches ≡ before ++ (pieces ++ behind)
  pub few_before : (length before ≤ 1) × All IsClash before
  pub few_behind : (length behind ≤ 1) × All IsClash behind
  pub are_pieces : All IsPieceOf pieces
  pub apart : pieces ≡ [] → (before ≡ []) ⊎ (behind ≡ [])
  pub long_pieces : (length pieces ≡ 1) ⊎ All IsLong pieces
  pub long_clashes : (length stretches ≡ 1) ⊎ (All IsLong before × All IsLong behind)

-- the sweep of the row's constant from the one to the other
pub record IsSweep (p : Problem) (row : ℕ) (from to : Fraction) (stretches : List Stretch) : Type 0 where
  pub covers : Cover from to stretches
  pub right : AreRight p row true stretches
  pub form : IsInForm stretches
