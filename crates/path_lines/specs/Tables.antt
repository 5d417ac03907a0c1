-- Lines by their places, and the kept lines of a corner.
use Rattle.std.specs.Prelude.{◌≡◌, ◌≢◌, ℕ, ◌<◌, cond, nat_eq, List, [], ◌∷◌, map, length, get_or, ℤ, pos}
use Rattle.std.specs.Prelude.{◌<ℤ◌, ◌⊎◌, ◌↔◌, ◌≤◌, ◌≤ℤ◌, unsigned_abs, slice_index_or, Option, None, Some}
use Rattle.problem_core.specs.declared.parts.Side.{Side}
use Rattle.problem_core.specs.declared.parts.Side.TheVariants.{Under}
use Rattle.problem_core.specs.declared.parts.RowName.{RowName}
use Rattle.problem_core.specs.declared.parts.RowName.TheVariants.{Held}
use Rattle.problem_core.specs.declared.parts.Mark.{Mark}
use Rattle.problem_core.specs.Layout.{Line, Problem, lines}
use Rattle.problem_core.specs.Kept.{IsWhole}
use Rattle.problem_core.specs.Corners.{IsCorner, IsExchange, IsIn, Point, StandsAt, Swap, exchanged, place_of}
use Rattle.cert_core.specs.Stops.{IsBefore}
use Rattle.problem_core.specs.Rays.{HasRays}
use Rattle.corner_lines.specs.LineEquations.{IsLineEquation, IsOutsideLine, deviation}
use Rattle.path_lines.specs.declared.spots.Spot.{Spot}
use Rattle.path_lines.specs.declared.spots.Step.{Step}
use Rattle.path_lines.specs.declared.table.Sum.{Sum}
use Rattle.path_lines.specs.declared.table.Inside.{Inside}
use Rattle.path_lines.specs.Numbers.{AreFitting}

-- how many lines the problem has
abbrev pub line_count : Problem → ℕ
line_count p = length (lines p)

-- the name of the line at a place
abbrev pub name_at : Problem → ℕ → RowName
name_at p at = slice_index_or (map (λ l. l.name) (lines p)) at (Held 0)

-- the mark at a spot: of the line at its place, on its side
abbrev pub mark_of : Problem → Spot → Mark
mark_of p spot = record { row = name_at p spot.at; side = spot.side }

-- the exchange of the marks at a step's two spots
abbrev pub swap_of : Problem → Step → Swap
swap_of p step = record { enter = mark_of p step.enter; leave = mark_of p step.leave }

-- the number of the line with this name
abbrev pub numbers_of : List Line → List ℤ → RowName → ℤ
numbers_of [] numbers name = pos 0
numbers_of (l ∷ ls) [] name = pos 0
numbers_of (l ∷ ls) (z ∷ numbers) name = cond (nat_eq (place_of l.name Under) (place_of name Under)) z
    (numbers_of ls numbers name)

-- ---- at a corner

-- a corner of a whole problem, at which each outside mark can grow alone
pub record IsThere (p : Problem) (at : List Mark) : Type 0 where
  pub whole : IsWhole p
  pub corner : IsCorner p at
  pub rays : HasRays p at

-- the sum fits, and has a number for each of so many lines
pub record IsSized (count : ℕ) (sum : Sum) : Type 0 where
  pub count_is : length sum.by.items ≡ count
  pub above : pos 0 <ℤ sum.own
  pub fits : AreFitting sum.own sum.by.items

-- it is the equation of the line's deviation
pub record IsSumOf (p : Problem) (at : List Mark) (name : RowName) (sum : Sum) : Type 0 where
  pub sized : IsSized (line_count p) sum
  pub equation : IsLineEquation p at (deviation name) (unsigned_abs sum.own)
      (numbers_of (lines p) sum.by.items) sum.value.num sum.value.den

-- the line is outside, or the mark of this side is inside, and this is its equation
abbrev pub IsLineAt : Problem → List Mark → RowName → Option Inside → Type 0
IsLineAt p at name None = IsOutsideLine at name
IsLineAt p at name (Some inside) = IsIn (place_of name inside.side) at × IsSumOf p at name inside.sum

-- the lines of the corner are kept, one by one
pub record AreLines (p : Problem) (at : List Mark) (kept : List (Option Inside)) : Type 0 where
  pub count : length kept ≡ line_count p
  pub each : (k : ℕ) (d : Option Inside) → k < line_count p → IsLineAt p at (name_at p k) (get_or kept k d)

-- the line is outside, or its sum fits and has a number for each of so many lines
abbrev pub IsSizedLine : ℕ → Option Inside → Type 0
IsSizedLine count None = Unit {0}
IsSizedLine count (Some inside) = IsSized count inside.sum

-- all sums fit and have as many numbers as there are lines
abbrev pub AreSized : List (Option Inside) → Type 0
AreSized kept = (k : ℕ) (d : Option Inside) → k < length kept → IsSizedLine (length kept) (get_or kept k d)

-- ---- the two marks of a line are exchanged

-- the line is outside before and after, or the mark of this side is inside now, with the same sum
abbrev pub IsTurnedLine : Side → Option Inside → Option Inside → Type 0
IsTurnedLine side None None = Unit {0}
IsTurnedLine side None (Some next) = ⊥
IsTurnedLine side (Some old) None = ⊥
IsTurnedLine side (Some old) (Some next) = (next.side ≡ side) × (next.sum ≡ old.sum)

-- the line at the place has this mark inside now, and all else is as before
pub record IsTurned (at : ℕ) (side : Side) (old next : List (Option Inside)) : Type 0 where
  pub count : length next ≡ length old
  pub here : (d : Option Inside) → IsTurnedLine side (get_or old at d) (get_or next at d)
  pub others : (k : ℕ) (d : Option Inside) → k ≢ at → get_or next k d ≡ get_or old k d

-- after the exchange of a line's two marks, the lines turned so are those of the corner
abbrev pub TurnedLinesAre : Type 0
TurnedLinesAre = (p : Problem) (at : List Mark) (step : Step) (old next : List (Option Inside))
    → IsThere p at → step.enter.at < line_count p → step.enter.at ≡ step.leave.at
    → IsExchange p at (swap_of p step) → AreLines p at old → IsTurned step.enter.at step.enter.side old next
    → AreLines p (exchanged (swap_of p step) at) next

-- ---- values

-- an inside mark of the line has no negative value
abbrev pub IsUp : Problem → List Mark → RowName → Type 0
IsUp p at name = (x : Point) (side : Side) → StandsAt p at x → IsIn (place_of name side) at
    → pos 0 ≤ℤ x.num (place_of name side)

-- the lines before `judged` and from `rows` on, and no others, are stays or rows with a number below `id`
abbrev pub AreJudged : Problem → (id judged rows : ℕ) → Type 0
AreJudged p id judged rows = (k : ℕ) → k < line_count p
    → ((k < judged) ⊎ (rows ≤ k)) ↔ IsBefore id (name_at p k)

-- ---- marks by line

-- for each line, which of its marks is among these
pub record AreSides (p : Problem) (at : List Mark) (sides : List (Option Side)) : Type 0 where
  pub count : length sides ≡ line_count p
  pub each : (k : ℕ) (side : Side) → k < line_count p
      → (slice_index_or sides k None ≡ Some side) ↔ IsIn (place_of (name_at p k) side) at

-- the names of all lines, in order
abbrev pub names_of : Problem → List RowName
names_of p = map (λ l. l.name) (lines p)

-- the spot has the place of the mark's line, and the mark's side
abbrev pub IsSpotOf : List RowName → Mark → Spot → Type 0
IsSpotOf names mark spot = (spot.at < length names) × (slice_index_or names spot.at (Held 0) ≡ mark.row)
    × (spot.side ≡ mark.side)
