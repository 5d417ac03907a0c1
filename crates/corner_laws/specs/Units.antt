-- A level's cost as a row of whole numbers.
use Rattle.std.specs.Prelude.{◌≡◌, ℕ, ◌*◌, ◌/◌, ◌<◌, List, ℤ, pos, ◌+ℤ◌, ◌-ℤ◌, ◌*ℤ◌, neg_ℤ, unsigned_abs, All}
use Rattle.std.specs.Int.{◌∣◌, IsGcd}
use Rattle.frac_core.specs.Fraction.{IsFitting}
use Rattle.problem_core.specs.declared.parts.Side.TheVariants.{Under, Over}
use Rattle.problem_core.specs.declared.parts.RowName.{RowName}
use Rattle.problem_core.specs.declared.parts.RowName.TheVariants.{Stay as StayOf}
use Rattle.problem_core.specs.declared.parts.Rel.TheVariants.{Eq}
use Rattle.problem_core.specs.declared.parts.Mark.{Mark}
use Rattle.problem_core.specs.Layout.{Line, Problem, lines, coefficient, sum_of}
use Rattle.problem_core.specs.Certificates.{under_weight, over_weight, weight_at}
use Rattle.problem_core.specs.Corners.{IsIn, place_of}

-- the least number by which each weight of the level over its line's scale is whole
pub record IsLevelUnit (p : Problem) (level unit : ℕ) : Type 0 where
  pub above : 0 < unit
  pub whole : All (λ l. l.scale ∣ unit * weight_at l level) (lines p)
  pub least : (n : ℕ) → All (λ l. l.scale ∣ n * weight_at l level) (lines p) → unit ∣ n

-- the least common multiple of the scales of the level's lines, each over its common divisor with the weight
pub record IsCommonShare (p : Problem) (level unit : ℕ) (divisor : Line → ℕ) : Type 0 where
  pub above : 0 < unit
  pub divisors : All (λ l. l.level ≡ level → IsGcd l.scale l.weight (divisor l)) (lines p)
  pub common : All (λ l. l.level ≡ level → (l.scale / divisor l) ∣ unit) (lines p)
  pub least : (n : ℕ) → All (λ l. l.level ≡ level → (l.scale / divisor l) ∣ n) (lines p) → unit ∣ n

-- what an under deviation of the line counts where the level's cost is taken `unit` times
abbrev pub under_share : ℕ → ℕ → Line → ℕ
under_share unit level l = under_weight l.rel (unit * weight_at l level / l.scale)

-- what an over deviation counts there
abbrev pub over_share : ℕ → ℕ → Line → ℕ
over_share unit level l = over_weight l.rel (unit * weight_at l level / l.scale)

-- `own` times what the inside marks count is the sum of the outside lines, each as often as `by` says, and of
-- a constant: the lines cancel where each inside one is taken as often as it counts. `own` and the outside
-- lines' numbers have no common factor
pub record IsLevelRow (p : Problem) (at : List Mark) (level unit own : ℕ) (by : RowName → ℤ) : Type 0 where
  pub own_positive : 0 < own
  pub cancel : (v : ℕ) → sum_of (λ l. by l.name *ℤ coefficient v l.form) (lines p) ≡ pos 0
  pub under : All (λ l. IsIn (place_of l.name Under) at → by l.name ≡ pos (own * under_share unit level l))
      (lines p)
  pub over : All (λ l. IsIn (place_of l.name Over) at
      → by l.name ≡ neg_ℤ (pos (own * over_share unit level l))) (lines p)
  pub lowest : (k : ℕ) → k ∣ own → All (λ l. (IsIn (place_of l.name Under) at → ⊥)
      → (IsIn (place_of l.name Over) at → ⊥) → k ∣ unsigned_abs (by l.name)) (lines p) → k ≡ 1

-- what is left of the marks' costs
pub record IsReducedBy (p : Problem) (level unit own : ℕ) (by : RowName → ℤ) (reduced : ℕ → ℤ) : Type 0 where
  pub under : All (λ l. reduced (place_of l.name Under) ≡ pos (own * under_share unit level l) -ℤ by l.name)
      (lines p)
  pub over : All (λ l. reduced (place_of l.name Over) ≡ pos (own * over_share unit level l) +ℤ by l.name)
      (lines p)

-- what has to fit of these numbers: the scale, the outside lines' multipliers, and both reduced costs of the
-- level's own lines
pub record AreFittingThere (p : Problem) (at : List Mark) (level scale : ℕ) (by : RowName → ℤ)
    (reduced : ℕ → ℤ) : Type 0 where
  pub scale_fits : IsFitting (pos scale)
  pub outside_fit : All (λ l. (IsIn (place_of l.name Under) at → ⊥) → (IsIn (place_of l.name Over) at → ⊥)
      → IsFitting (by l.name)) (lines p)
  pub own_fit : All (λ l. l.level ≡ level → IsFitting (reduced (place_of l.name Under))
      × IsFitting (reduced (place_of l.name Over))) (lines p)

-- the level of a stay, at which it stands alone
pub record IsStayLevel (p : Problem) (level attr : ℕ) : Type 0 where
  pub own : All (λ l. l.level ≡ level → (l.name ≡ StayOf attr) × (l.rel ≡ Eq) × (l.scale ≡ 1)
      × (l.weight ≡ 1)) (lines p)
  pub named : All (λ l. l.name ≡ StayOf attr → l.level ≡ level) (lines p)
