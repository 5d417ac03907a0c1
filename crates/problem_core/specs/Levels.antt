-- What a level costs at a corner, and how its cost is written by the outside marks.
use Rattle.std.specs.Prelude.{◌≡◌, ℕ, ◌+◌, ◌/◌, ◌<◌, List, ℤ, pos, ◌+ℤ◌, ◌*ℤ◌, ◌<ℤ◌, unsigned_abs, All, Any}
use Rattle.std.specs.Int.{◌∣◌}
use Rattle.frac_core.specs.Fraction.{Fraction, IsFitting, IsKept}
use Rattle.problem_core.specs.declared.parts.Side.{Side}
use Rattle.problem_core.specs.declared.parts.Side.TheVariants.{Under, Over}
use Rattle.problem_core.specs.declared.parts.RowName.{RowName}
use Rattle.problem_core.specs.declared.parts.RowName.TheVariants.{Stay as StayOf}
use Rattle.problem_core.specs.declared.parts.Mark.{Mark}
use Rattle.problem_core.specs.declared.parts.Level.{Level}
use Rattle.problem_core.specs.declared.parts.Level.TheVariants.{Priority, Stay as StayLevel}
use Rattle.problem_core.specs.Layout.{Line, Problem, lines, coefficient, sum_of, product_of}
use Rattle.problem_core.specs.Certificates.{Multipliers, under_weight, over_weight, weight_at}
use Rattle.problem_core.specs.Corners.{Point, StandsAt, IsIn, column, one_column, place_of}
use Rattle.problem_core.specs.declared.limits.TheConstants.{REQUIRED}

-- the number of a level among the levels of the problem, strongest first
abbrev pub IsLevelAt : Problem → Level → ℕ → Type 0
IsLevelAt p (Priority rank) k = k + rank ≡ REQUIRED
IsLevelAt p (StayLevel attr) k = Any (λ l. (l.name ≡ StayOf attr) × (l.level ≡ k)) (lines p)

-- ---- the cost

-- the line's weight at the level, times those of its deviations that cost
abbrev pub line_cost : ℕ → (ℕ → ℤ) → Line → ℤ
line_cost level x l = pos (under_weight l.rel (weight_at l level)) *ℤ x (place_of l.name Under)
    +ℤ pos (over_weight l.rel (weight_at l level)) *ℤ x (place_of l.name Over)

-- a common multiple of the scales
abbrev pub scales : Problem → ℕ
scales p = product_of (λ l. l.scale) (lines p)

-- the level's cost at a point, over `scales p * x one_column`
abbrev pub cost_at : Problem → ℕ → (ℕ → ℤ) → ℤ
cost_at p level x = sum_of (λ l. pos (scales p / l.scale) *ℤ line_cost level x l) (lines p)

-- the level's cost at the corner is this fraction
abbrev pub IsCostAt : Problem → List Mark → ℕ → Fraction → Type 0
IsCostAt p at level f = (x : Point) × StandsAt p at x
    × (cost_at p level x.num *ℤ pos f.den ≡ f.num *ℤ (pos (scales p) *ℤ x.num one_column))

-- the level costs more than nothing at the corner
abbrev pub CostsAbove : Problem → List Mark → ℕ → Type 0
CostsAbove p at level = (x : Point) × StandsAt p at x × (pos 0 <ℤ cost_at p level x.num)

-- ---- its writing

-- the same scale and multipliers at each level
abbrev pub alone : ℕ → (RowName → ℤ) → Multipliers
alone scale times = record { scale = λ k. scale; times = λ k name. times name }

-- `scale` times the level's cost is the sum of each outside mark times its reduced cost, and of a constant:
-- the lines cancel when each is taken as often as its multiplier says, what is left of a mark's cost is its
-- reduced cost, and no inside mark has one; all of it is whole and in joint lowest terms
pub record IsLevelWriting (p : Problem) (at : List Mark) (level scale : ℕ) (times : RowName → ℤ)
    (reduced : ℕ → ℤ) : Type 0 where
  pub scale_positive : 0 < scale
  pub cancel : (v : ℕ) → sum_of (λ l. times l.name *ℤ coefficient v l.form) (lines p) ≡ pos 0
  pub columns : (side : Side) → All (λ l. pos l.scale *ℤ reduced (place_of l.name side)
      ≡ column (alone scale times) side l level) (lines p)
  pub inside_zero : (side : Side) → All (λ l. IsIn (place_of l.name side) at
      → reduced (place_of l.name side) ≡ pos 0) (lines p)
  pub lowest : (k : ℕ) → k ∣ scale → All (λ l. (k ∣ unsigned_abs (times l.name))
      × (k ∣ unsigned_abs (reduced (place_of l.name Under)))
      × (k ∣ unsigned_abs (reduced (place_of l.name Over)))) (lines p) → k ≡ 1

-- the scale, each multiplier and each reduced cost fit
pub record AreFitting (p : Problem) (scale : ℕ) (times : RowName → ℤ) (reduced : ℕ → ℤ) : Type 0 where
  pub scale_fits : IsFitting (pos scale)
  pub times_fit : All (λ l. IsFitting (times l.name)) (lines p)
  pub reduced_fit : (side : Side) → All (λ l. IsFitting (reduced (place_of l.name side))) (lines p)

-- no writing of the level's cost fits, with its value
abbrev pub HasNoLevelWriting : Problem → List Mark → ℕ → Type 0
HasNoLevelWriting p at level = (scale : ℕ) (times : RowName → ℤ) (reduced : ℕ → ℤ) (value : Fraction)
    → IsLevelWriting p at level scale times reduced → IsCostAt p at level value
    → AreFitting p scale times reduced → IsKept value → ⊥
