-- The first number of a column that is not 0.
use Rattle.std.specs.Prelude.{◌≡◌, ℕ, ◌*◌, ◌<◌, ◌≤◌, Bool, true, false, ◌||◌, ◌&&◌, cond, nat_eq, List}
use Rattle.std.specs.Prelude.{ℤ, pos, ◌-ℤ◌, ◌+ℤ◌, ◌*ℤ◌, ◌<ℤ◌, nat_abs, unsigned_abs, Option, Some, None, All}
use Rattle.std.specs.Prelude.{length, slice_index_or}
use Rattle.std.specs.List.{HoldsAt, list_any}
use Rattle.std.specs.declared.cmp.Ordering.{Ordering}
use Rattle.std.specs.declared.cmp.Ordering.TheVariants.{Less, Equal, Greater}
use Rattle.problem_core.specs.Layout.{Line, Problem, lines}
use Rattle.problem_core.specs.declared.limits.TheConstants.{COEFFICIENT_LIMIT, WEIGHT_LIMIT}
use Rattle.problem_core.specs.declared.parts.Rel.{Rel}
use Rattle.problem_core.specs.declared.parts.Side.{Side}
use Rattle.problem_core.specs.declared.parts.Side.TheVariants.{Under, Over}
use Rattle.problem_core.specs.Certificates.{Multipliers, under, over, under_weight, over_weight}
use Rattle.cert_checker.specs.declared.fronts.Front.{Front}
use Rattle.cert_checker.specs.declared.fronts.Facts.{Facts}
use Rattle.cert_checker.specs.declared.fronts.Sides.{Sides}
use Rattle.frac_core.specs.Fraction.{IsFitting}
use Rattle.cert_checker.specs.declared.leveled.PlacedLevel.{PlacedLevel}
use Rattle.cert_checker.specs.declared.sums.Weighted.{Weighted}
use Rattle.cert_checker.specs.LineSums.{line_count}
use Rattle.cert_checker.specs.LinePlaces.{name_at}

-- the front of a column, as far as the levels that were seen tell
abbrev pub IsFront : (ℕ → ℤ) → (ℕ → Bool) → Option Front → Type 0
IsFront f seen None = (k : ℕ) → seen k ≡ true → f k ≡ pos 0
IsFront f seen (Some q) =
    (q.negative ≡ true → f q.level <ℤ pos 0)
    × (q.negative ≡ false → pos 0 <ℤ f q.level)
    × ((k : ℕ) → seen k ≡ true → k < q.level → f k ≡ pos 0)

-- whether a level is seen, where these are and one more
abbrev pub seen_with : (ℕ → Bool) → ℕ → ℕ → Bool
seen_with seen level k = seen k || nat_eq k level

-- what one point on a side costs, where these are the relation and the weight
abbrev pub weight_of_side : Rel → Side → ℕ → ℕ
weight_of_side rel Under weight = under_weight rel weight
weight_of_side rel Over weight = over_weight rel weight

-- the reduced cost of a side at a level, from the line's facts, the level's scale and the line's multiplier
-- there
abbrev pub reduced : Facts → Side → ℕ → ℕ → ℤ → ℤ
reduced facts Under level scale times = pos (scale
    * under_weight facts.rel (cond (nat_eq facts.own level) facts.weight 0)) -ℤ facts.scale *ℤ times
reduced facts Over level scale times = pos (scale * over_weight facts.rel
    (cond (nat_eq facts.own level) facts.weight 0)) +ℤ facts.scale *ℤ times

-- the facts are those of the line at the place
pub record AreFacts (p : Problem) (at : ℕ) (facts : Facts) : Type 0 where
  pub own : HoldsAt (λ l. l.level ≡ facts.own) (lines p) at
  pub weight : HoldsAt (λ l. l.weight ≡ facts.weight) (lines p) at
  pub rel : HoldsAt (λ l. l.rel ≡ facts.rel) (lines p) at
  pub scale : HoldsAt (λ l. pos l.scale ≡ facts.scale) (lines p) at
  pub scale_fits : unsigned_abs facts.scale ≤ COEFFICIENT_LIMIT
  pub weight_fits : facts.weight ≤ WEIGHT_LIMIT

-- both fronts of a line, and whether a multiplier at its own level was seen
pub record HasFronts (f g : ℕ → ℤ) (seen : ℕ → Bool) (own : ℕ) (sides : Sides) : Type 0 where
  pub below : IsFront f seen sides.under
  pub above : IsFront g seen sides.over
  pub own_seen : sides.own ≡ seen own

-- the line's fronts, once its multiplier at one more level is seen
abbrev pub HasSeen : Facts → ℕ → ℕ → ℤ → Sides → Sides → Type 0
HasSeen facts level scale times old new = (f g : ℕ → ℤ) (seen : ℕ → Bool)
    → f level ≡ reduced facts Under level scale times → g level ≡ reduced facts Over level scale times
    → HasFronts f g seen facts.own old → HasFronts f g (seen_with seen level) facts.own new

-- the fronts of all lines
pub record AreFronts (p : Problem) (m : Multipliers) (seen : ℕ → ℕ → Bool) (sides : List Sides) : Type 0 where
  pub count : length sides ≡ line_count p
  pub each : (at : ℕ) (l : Line) (s : Sides) → at < line_count p
      → HasFronts (under m (slice_index_or (lines p) at l)) (over m (slice_index_or (lines p) at l)) (seen at)
      (slice_index_or (lines p) at l).level (slice_index_or sides at s)

-- the multipliers at the level are those that are written for it
pub record AreOfLevel (p : Problem) (m : Multipliers) (level : ℕ) (scale : ℤ)
    (ws : List Weighted) : Type 0 where
  pub is_scale : m.scale level ≡ nat_abs scale
  pub are_times : All (λ w. m.times level (name_at p w.at) ≡ w.times) ws

-- whether the line at the place is named
abbrev pub names_line : ℕ → List Weighted → Bool
names_line at ws = list_any (λ w. nat_eq w.at at) ws

-- the fronts of all lines, once the multipliers at one more level are seen
abbrev pub HaveSeen : Problem → ℕ → ℤ → List Weighted → List Sides → List Sides → Type 0
HaveSeen p level scale ws old new = (m : Multipliers) (seen : ℕ → ℕ → Bool) → AreOfLevel p m level scale ws
    → AreFronts p m seen old → AreFronts p m (λ at k. seen at k || (names_line at ws && nat_eq k level)) new

-- whether a placed level names the line at the level k
abbrev pub seen_by : List PlacedLevel → ℕ → ℕ → Bool
seen_by placed at k = list_any (λ q. names_line at q.weighted.items && nat_eq k q.level) placed

-- what the fronts need of a placed level
pub record IsReady (p : Problem) (q : PlacedLevel) : Type 0 where
  pub below : All (λ w. (w.at < line_count p) × IsFitting w.times) q.weighted.items
  pub fits : IsFitting q.scale
  pub above : pos 0 <ℤ q.scale

-- nothing is seen yet
pub record IsBlank (s : Sides) : Type 0 where
  pub below : s.under ≡ None
  pub above : s.over ≡ None
  pub unseen : s.own ≡ false

-- at the line's own level the number is 0 where the side costs nothing, else above 0
pub record HasOwnNumber (f : ℕ → ℤ) (facts : Facts) (side : Side) : Type 0 where
  pub free : weight_of_side facts.rel side facts.weight ≡ 0 → f facts.own ≡ pos 0
  pub costed : 0 < weight_of_side facts.rel side facts.weight → pos 0 <ℤ f facts.own

-- the front of a side's column, once its number at the line's own level counts even where no multiplier there
-- was seen
abbrev pub CountsOwn : Facts → Side → Bool → Option Front → Option Front → Type 0
CountsOwn facts side named old new = (f : ℕ → ℤ) (seen : ℕ → Bool) → named ≡ seen facts.own
    → (seen facts.own ≡ false → HasOwnNumber f facts side) → IsFront f seen old
    → IsFront f (seen_with seen facts.own) new

-- the front of a column, of all its levels
abbrev pub IsColumnFront : (ℕ → ℤ) → Option Front → Type 0
IsColumnFront f None = (k : ℕ) → f k ≡ pos 0
IsColumnFront f (Some q) =
    (q.negative ≡ true → f q.level <ℤ pos 0)
    × (q.negative ≡ false → pos 0 <ℤ f q.level)
    × ((k : ℕ) → k < q.level → f k ≡ pos 0)

-- whether the first number that isn't 0 is below 0
abbrev pub is_below : Option Front → Bool
is_below None = false
is_below (Some q) = q.negative

-- whether there is no front, and so no number that isn't 0
abbrev pub is_zero : Option Front → Bool
is_zero None = true
is_zero (Some q) = false

-- what is not seen has no multiplier, and no scale is 0
pub record AreKnown (p : Problem) (m : Multipliers) (seen : ℕ → ℕ → Bool) : Type 0 where
  pub scales : (k : ℕ) → 0 < m.scale k
  pub unseen : (at k : ℕ) → at < line_count p → seen at k ≡ false → m.times k (name_at p at) ≡ pos 0

-- the fronts of the line at a place
abbrev pub HasFrontsAt : Problem → Multipliers → (ℕ → ℕ → Bool) → ℕ → Sides → Type 0
HasFrontsAt p m seen at sides = HoldsAt (λ l. HasFronts (under m l) (over m l) (seen at) l.level sides)
    (lines p) at

-- the fronts of the line's whole columns
abbrev pub HasColumnFronts : Multipliers → Line → Sides → Type 0
HasColumnFronts m l sides = IsColumnFront (under m l) sides.under × IsColumnFront (over m l) sides.over

-- whether the column of the side that the sign of the gap uses is all 0
abbrev pub is_free : Sides → Ordering → Bool
is_free sides Less = is_zero sides.under
is_free sides Equal = true
is_free sides Greater = is_zero sides.over
