-- Multipliers of the required rows without a common factor.
use Rattle.std.specs.Prelude.{◌≡◌, ◌≢◌, ◌⊎◌, ◌<◌, ◌++◌, ◌∷◌, [], ℕ, List, ℤ, pos, ◌*ℤ◌, unsigned_abs}
use Rattle.std.specs.Prelude.{All, AllPairs, Any}
use Rattle.std.specs.Int.{◌∣◌}
use Rattle.problem_core.specs.declared.limits.TheConstants.{REQUIRED}
use Rattle.problem_core.specs.declared.parts.Mark.{Mark}
use Rattle.problem_core.specs.declared.parts.RowName.{RowName}
use Rattle.problem_core.specs.declared.parts.RowName.TheVariants.{Held}
use Rattle.problem_core.specs.Layout.{Problem, Row}
use Rattle.problem_core.specs.Levels.{IsLevelWriting}
use Rattle.corner_view.specs.Seen.{CornerView}
use Rattle.cert_core.specs.declared.by.By.{By}
use Rattle.cert_core.specs.Claims.{AreBys, times_of}
use Rattle.cert_core.specs.Stops.{ComesBefore, IsShownConflict}
use Rattle.cert_core.specs.declared.stops.RunStop.{RunStop}
use Rattle.cert_core.specs.declared.stops.RunStop.TheVariants.{Conflict, Unfit, Spent, OutOfMemory}

-- the rows' multipliers at the level of the required rows
pub record AreRequiredTimes (p : Problem) (at : List Mark) (y : ℕ → ℤ) : Type 0 where
  pub scale : ℕ
  pub times : RowName → ℤ
  pub reduced : ℕ → ℤ
  pub writing : IsLevelWriting p at 0 scale times reduced
  pub are : (id : ℕ) → y id ≡ times (Held id)

-- this holds of the rows' multipliers there
abbrev pub ForRequiredTimes : CornerView → ((ℕ → ℤ) → Type 0) → Type 0
ForRequiredTimes c holds = (y : ℕ → ℤ) → AreRequiredTimes c.problem c.marks y → holds y

-- the factor divides the row's multiplier, where the row is required
abbrev pub IsDivisor : ℕ → (ℕ → ℤ) → Row → Type 0
IsDivisor g y r = r.rank ≡ REQUIRED → g ∣ unsigned_abs (y r.id)

-- each common factor of the required rows' multipliers divides this one
abbrev pub IsGreatest : ℕ → (ℕ → ℤ) → List Row → Type 0
IsGreatest g y rows = (k : ℕ) → All (IsDivisor k y) rows → k ∣ g

-- the multipliers of the required ones of these rows that are not 0, each divided by g, by rising number, and
-- no others
pub record AreShares (y : ℕ → ℤ) (g : ℕ) (rows : List Row) (by : List By) : Type 0 where
  pub named : All (λ b. Any (λ r. (r.rank ≡ REQUIRED) × (b.row ≡ Held r.id)) rows) by
  pub nonzero : All (λ b. b.times ≢ pos 0) by
  pub rising : AllPairs (λ a b. ComesBefore a.row b.row) by
  pub times : All (λ r. r.rank ≡ REQUIRED → pos g *ℤ times_of by (Held r.id) ≡ y r.id) rows
  pub absent : (id : ℕ) → All (λ r. r.id ≢ id) rows → All (λ b. b.row ≢ Held id) by
  pub kept : AreBys by

-- where the first are the shares of rows with lesser numbers, the second are those with this row's
abbrev pub HasNextShare : (ℕ → ℤ) → ℕ → Row → List By → List By → Type 0
HasNextShare y g row before after = (rows : List Row) → All (λ r. r.id < row.id) rows
    → AreShares y g rows before → AreShares y g (rows ++ row ∷ []) after

-- the shares by the greatest common factor; where all the multipliers are 0, by some factor
abbrev pub AreLowestShares : (ℕ → ℤ) → List Row → List By → Type 0
AreLowestShares y rows by = (g : ℕ) × (0 < g) × (All (IsDivisor 0 y) rows ⊎ IsGreatest g y rows)
    × AreShares y g rows by

-- a conflict that is shown, or want of memory
abbrev pub IsConflictStop : Problem → RunStop → Type 0
IsConflictStop p (Conflict by) = IsShownConflict p by
IsConflictStop p (Unfit at) = ⊥
IsConflictStop p (Spent path) = ⊥
IsConflictStop p OutOfMemory = Unit {0}
