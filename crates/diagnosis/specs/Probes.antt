-- Probes: the row that is added, what is answered, and why a probe stops.
use Rattle.std.specs.Prelude.{◌≡◌, ℕ, ◌+◌, ◌<◌, Bool, true, false, List, [], ◌∷◌, length, ℤ, pos, ◌+ℤ◌}
use Rattle.std.specs.Prelude.{◌≢◌, ◌*◌, ◌-ℤ◌, ◌*ℤ◌, ◌≤ℤ◌, negsuc, unsigned_abs, All, AllPairs, Contains}
use Rattle.problem_core.specs.declared.parts.Stay.{Stay}
use Rattle.frac_core.specs.Fraction.{Fraction, IsKept, IsLowest, IsRatio, IsUnfitRatio, sum_den, sum_num}
use Rattle.problem_core.specs.declared.limits.TheConstants.{NUMBER_LIMIT, ROW_LIMIT}
use Rattle.problem_core.specs.declared.parts.Rel.{Rel}
use Rattle.problem_core.specs.declared.parts.Rel.TheVariants.{Eq, Ge, Le}
use Rattle.problem_core.specs.Layout.{Assignment, HasStay, Problem, Row}
use Rattle.problem_core.specs.Gaps.{value_of}
use Rattle.cert_core.specs.Stops.{IsStopOf}
use Rattle.cert_core.specs.declared.stops.RunStop.{RunStop}
use Rattle.cert_core.specs.declared.stops.RunStop.TheVariants as run
use Rattle.version_lists.specs.declared.versions.TheConstants.{VERSION_LIMIT}
use Rattle.corner_view.specs.AddStops.{FromAdded}
use Rattle.layout_solver.specs.Layouts.{Layout, with_added}
pub use Rattle.layout_solver.specs.Keeping.{NoConflict}
use Rattle.diagnosis.specs.declared.probing.Answer.{Answer}
use Rattle.diagnosis.specs.declared.probing.Answer.TheVariants.{Fixed, Moves}
use Rattle.diagnosis.specs.declared.probing.DiagnoseStop.{DiagnoseStop}
use Rattle.diagnosis.specs.declared.probing.DiagnoseStop.TheVariants.{Unfit, Spent, Target, OutOfMemory}
use Rattle.diagnosis.specs.Ambiguity.{GoesAbove, IsAmbiguous, IsLooselyBest, IsMove, Reaches}

-- the attribute is held, there is room for a row more, a number for it, and room for an earlier layout more,
-- and no row has the rank of a probe
pub record CanProbe (l : Layout) (attr : ℕ) : Type 0 where
  pub held : HasStay l.problem.stays attr
  pub few : length l.problem.rows < ROW_LIMIT
  pub numbers : All (λ r. r.id < NUMBER_LIMIT) l.problem.rows
  pub ranks : All (λ r. 0 < r.rank) l.problem.rows
  pub room : length l.earlier < VERSION_LIMIT

-- one more than the greatest number, or 1
abbrev pub next_number : List Row → ℕ
next_number [] = 1
next_number (r ∷ []) = r.id + 1
next_number (r ∷ (s ∷ rows)) = next_number (s ∷ rows)

-- a row of rank 0 that wishes the attribute at f, at least f or at most f
abbrev pub wish_row : ℕ → ℕ → Rel → Fraction → Row
wish_row id attr rel f = record {
  id = id;
  rank = 0;
  weight = 1;
  rel = rel;
  scale = 1;
  constant = f;
  terms = record { attr = attr; by = pos 1 } ∷ [];
}

-- the row `attr == f` of rank 0
abbrev pub probe_row : Layout → ℕ → Fraction → Row
probe_row l attr f = wish_row (next_number l.problem.rows) attr Eq f

-- on the way up the attribute is to be at least so much, on the way down at most
abbrev pub side : Bool → Rel
side true = Ge
side false = Le

-- the problem with the probe row
abbrev pub with_probe : Layout → ℕ → Fraction → Problem
with_probe l attr f = with_added l [] (probe_row l attr f ∷ [])

-- v + 1, or v - 1, over v's denominator
abbrev pub next_num : Bool → Fraction → ℤ
next_num true v = v.num +ℤ pos v.den
next_num false v = v.num -ℤ pos v.den

-- f is v + 1, or v - 1
abbrev pub IsBeside : Bool → Fraction → Fraction → Type 0
IsBeside up v f = f.num *ℤ pos v.den ≡ next_num up v *ℤ pos f.den

-- the second minus the first fits
abbrev pub IsNearTo : Fraction → Fraction → Type 0
IsNearTo from to = (more : Fraction) × IsKept more
    × IsRatio more (sum_num to (negsuc 0) (pos 1) from) (sum_den to (pos 1) from)

-- f is at or before t on the way
abbrev pub IsNoFurther : Bool → Fraction → Fraction → Type 0
IsNoFurther true t f = (f.num *ℤ pos t.den) ≤ℤ (t.num *ℤ pos f.den)
IsNoFurther false t f = (t.num *ℤ pos f.den) ≤ℤ (f.num *ℤ pos t.den)

-- how far the attribute is above the fraction, over both denominators
abbrev pub place : ℕ → Fraction → Assignment → ℤ
place attr t x = x.num attr *ℤ pos t.den -ℤ t.num *ℤ pos x.den

-- no loosely best assignment is nearer to t
pub record IsNearest (p : Problem) (attr : ℕ) (t : Fraction) (x : Assignment) : Type 0 where
  pub loosely : IsLooselyBest p x
  pub none : (y : Assignment) → IsLooselyBest p y
      → unsigned_abs (place attr t y) * x.den < unsigned_abs (place attr t x) * y.den → ⊥

-- a loosely best assignment to which none is nearer gives the attribute this value
abbrev pub IsNearestValue : Problem → ℕ → Fraction → Fraction → Type 0
IsNearestValue p attr t f = (x : Assignment) × IsNearest p attr t x × Reaches x attr f

-- ---- answers

-- no two loosely best assignments differ at the attribute; or two do, and it moves from v to f, which is in
-- lowest terms
abbrev pub IsAnswer : Problem → ℕ → Fraction → Answer → Type 0
IsAnswer p attr v Fixed = IsAmbiguous p attr → ⊥
IsAnswer p attr v (Moves f) = IsLowest f × IsAmbiguous p attr × IsMove p attr v f

-- a run from the kept corner with the probe row stops so
abbrev pub IsProbeStop : Layout → ℕ → Bool → ℕ → RunStop → Type 0
IsProbeStop l attr up budget stop = (f : Fraction) × IsBeside up (value_of l.values attr) f × IsKept f
    × IsStopOf false (with_probe l attr f) l.problem.rows
    (FromAdded (with_probe l attr f) l.corner (probe_row l attr f ∷ [])) budget stop

-- the value nearest to what such a probe wishes
abbrev pub IsTried : Layout → ℕ → Bool → Fraction → Type 0
IsTried l attr up f = (t : Fraction) × IsBeside up (value_of l.values attr) t × IsKept t
    × IsNearestValue l.problem attr t f

-- ---- stops

-- a run's stop as a probe's
abbrev pub turned : Bool → RunStop → DiagnoseStop
turned up (run.Conflict by) = OutOfMemory
turned up (run.Unfit at) = Unfit up at
turned up (run.Spent path) = Spent up path
turned up run.OutOfMemory = OutOfMemory

-- a probe in this direction stops so
abbrev pub IsStopped : Layout → ℕ → Bool → ℕ → DiagnoseStop → Type 0
IsStopped l attr up budget (Unfit way at) = (way ≡ up) × IsProbeStop l attr up budget (run.Unfit at)
IsStopped l attr up budget (Spent way path) = (way ≡ up) × IsProbeStop l attr up budget (run.Spent path)
IsStopped l attr up budget (Target way) = (way ≡ up)
    × IsUnfitRatio (next_num up (value_of l.values attr)) (pos (value_of l.values attr).den)
IsStopped l attr up budget OutOfMemory = Unit {0}

-- a probe down is made if nothing above is reached
abbrev pub IsCalledFor : Layout → ℕ → Bool → Type 0
IsCalledFor l attr up = up ≡ false → GoesAbove l.problem attr (value_of l.values attr) → ⊥

-- a probe that is called for stops so
abbrev pub IsDiagnoseStop : Layout → ℕ → ℕ → DiagnoseStop → Type 0
IsDiagnoseStop l attr budget (Unfit up at) = IsCalledFor l attr up
    × IsProbeStop l attr up budget (run.Unfit at)
IsDiagnoseStop l attr budget (Spent up path) = IsCalledFor l attr up
    × IsProbeStop l attr up budget (run.Spent path)
IsDiagnoseStop l attr budget (Target up) = IsCalledFor l attr up
    × IsUnfitRatio (next_num up (value_of l.values attr)) (pos (value_of l.values attr).den)
IsDiagnoseStop l attr budget OutOfMemory = Unit {0}

-- ---- all attributes

-- each attribute with a stay can be probed
abbrev pub CanProbeAll : Layout → Type 0
CanProbeAll l = All (λ s. CanProbe l s.attr) l.problem.stays

-- of the attributes of these stays, by number, each that is ambiguous, with the value to which it moves from
-- its own; no other
pub record AreMoving (p : Problem) (values : List (ℕ × Fraction)) (stays : List Stay)
    (moving : List (ℕ × Fraction)) : Type 0 where
  pub answers : All (λ m. IsAnswer p m.0 (value_of values m.0) (Moves m.1)) moving
  pub among : All (λ m. HasStay stays m.0) moving
  pub rising : AllPairs (λ m n. m.0 < n.0) moving
  pub all : All (λ s. All (λ m. m.0 ≢ s.attr) moving → IsAmbiguous p s.attr → ⊥) stays

-- the same of attributes
pub record AreMovingAmong (p : Problem) (values : List (ℕ × Fraction)) (attrs : List ℕ)
    (moving : List (ℕ × Fraction)) : Type 0 where
  pub answers : All (λ m. IsAnswer p m.0 (value_of values m.0) (Moves m.1)) moving
  pub among : All (λ m. Contains attrs m.0) moving
  pub rising : AllPairs (λ m n. m.0 < n.0) moving
  pub all : All (λ a. All (λ m. m.0 ≢ a) moving → IsAmbiguous p a → ⊥) attrs

-- what an answer adds to such a list
abbrev pub listed : ℕ → Answer → List (ℕ × Fraction)
listed attr Fixed = []
listed attr (Moves f) = (attr, f) ∷ []

-- a probe of this attribute, which is held, stops so; or memory is wanting
abbrev pub IsStopAt : Layout → ℕ → ℕ → DiagnoseStop → Type 0
IsStopAt l budget attr (Unfit up at) = HasStay l.problem.stays attr
    × IsDiagnoseStop l attr budget (Unfit up at)
IsStopAt l budget attr (Spent up path) = HasStay l.problem.stays attr
    × IsDiagnoseStop l attr budget (Spent up path)
IsStopAt l budget attr (Target up) = HasStay l.problem.stays attr × IsDiagnoseStop l attr budget (Target up)
IsStopAt l budget attr OutOfMemory = Unit {0}
