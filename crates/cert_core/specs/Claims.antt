-- Lists of multipliers, and what they stand for.
use Rattle.std.specs.Prelude.{◌≢◌, ℕ, ◌-◌, ◌≤◌, Bool, false, cond, nat_eq, nat_lt, List, [], ◌∷◌, map, ℤ, pos}
use Rattle.std.specs.Prelude.{nat_abs, All, AllPairs, slice_index_or}
use Rattle.frac_core.specs.Fraction.{IsFitting}
use Rattle.problem_core.specs.declared.parts.RowName.{RowName}
use Rattle.problem_core.specs.declared.parts.RowName.TheVariants.{Held, Stay as StayOf}
use Rattle.problem_core.specs.declared.parts.Level.{Level}
use Rattle.problem_core.specs.declared.parts.Level.TheVariants.{Priority, Stay as StayLevel}
use Rattle.problem_core.specs.declared.limits.TheConstants.{FIRST_STAY_LEVEL, REQUIRED}
use Rattle.problem_core.specs.Layout.{Problem, sum_of}
use Rattle.problem_core.specs.Certificates.{Multipliers}
use Rattle.cert_core.specs.declared.by.By.{By}

-- ---- what the types keep

-- each multiplier fits, and no row stands twice
pub record AreBys (bys : List By) : Type 0 where
  pub fitting : All (λ b. IsFitting b.times) bys
  pub apart : AllPairs (λ b c. b.row ≢ c.row) bys

-- a level, its scale, and the multipliers of lines there
pub record BestLevel : Type 0 where
  pub level : Level
  pub scale : ℤ
  pub by : List By

-- a priority is at most that of required rows
abbrev pub IsRanked : Level → Type 0
IsRanked (Priority rank) = rank ≤ REQUIRED
IsRanked (StayLevel attr) = Unit {0}

-- the level may be named, its scale and its multipliers fit, and no row stands twice among them
pub record IsLevel (l : BestLevel) : Type 0 where
  pub ranked : IsRanked l.level
  pub scale : IsFitting l.scale
  pub by : AreBys l.by

-- no level stands twice
pub record AreLevels (levels : List BestLevel) : Type 0 where
  pub each : All IsLevel levels
  pub apart : AllPairs (λ l m. l.level ≢ m.level) levels

-- ---- what they stand for

-- whether two rows have the same name
abbrev pub same_row : RowName → RowName → Bool
same_row (Held a) (Held b) = nat_eq a b
same_row (Held a) (StayOf b) = false
same_row (StayOf a) (Held b) = false
same_row (StayOf a) (StayOf b) = nat_eq a b

-- the row's multiplier, 0 where none is written
abbrev pub times_of : List By → RowName → ℤ
times_of bys row = sum_of (λ b. cond (same_row b.row row) b.times (pos 0)) bys

-- whether two levels are the same
abbrev pub same_level : Level → Level → Bool
same_level (Priority a) (Priority b) = nat_eq a b
same_level (Priority a) (StayLevel b) = false
same_level (StayLevel a) (Priority b) = false
same_level (StayLevel a) (StayLevel b) = nat_eq a b

-- the scale that is written for a level, or 1
abbrev pub scale_of : List BestLevel → Level → ℕ
scale_of [] level = 1
scale_of (l ∷ levels) level = cond (same_level l.level level) (nat_abs l.scale) (scale_of levels level)

-- the multipliers that are written for a level, or none
abbrev pub bys_of : List BestLevel → Level → List By
bys_of [] level = []
bys_of (l ∷ levels) level = cond (same_level l.level level) l.by (bys_of levels level)

-- the levels of a problem, strongest first: the priorities from that of required rows to 0, then the stays
-- in their order
abbrev pub level_at : Problem → ℕ → Level
level_at p k = cond (nat_lt REQUIRED k)
    (StayLevel (slice_index_or (map (λ s. s.attr) p.stays) (k - FIRST_STAY_LEVEL) 0))
    (Priority (REQUIRED - k))

-- the multipliers for each level of the problem
abbrev pub multipliers_of : Problem → List BestLevel → Multipliers
multipliers_of p levels = record {
  scale = λ k. scale_of levels (level_at p k);
  times = λ k row. times_of (bys_of levels (level_at p k)) row;
}
