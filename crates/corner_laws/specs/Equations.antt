-- Equations at a corner in lowest terms or not, and when their lowest terms do not fit.
use Rattle.std.specs.Prelude.{◌≡◌, ◌≢◌, ℕ, ◌<◌, List, map, ℤ, pos, ◌+ℤ◌, ◌*ℤ◌, unsigned_abs, All, Contains}
use Rattle.std.specs.Int.{◌∣◌}
use Rattle.frac_core.specs.Fraction.{Fraction, IsFitting, IsKept, IsRatio}
use Rattle.problem_core.specs.declared.parts.Side.{Side}
use Rattle.problem_core.specs.declared.parts.Side.TheVariants.{Under, Over}
use Rattle.problem_core.specs.declared.parts.RowName.{RowName}
use Rattle.problem_core.specs.declared.parts.Mark.{Mark}
use Rattle.problem_core.specs.declared.parts.Term.{Term}
use Rattle.problem_core.specs.Layout.{Problem, lines, coefficient, sum_of, value_at}
use Rattle.problem_core.specs.Corners.{Point, Solves, IsIn, column, marks_of, one_column, place, place_of}
use Rattle.problem_core.specs.Levels.{AreFitting, IsCostAt, alone}

-- ---- of a quantity

-- `scale` times the quantity is the sum of a form of outside marks and of a constant in each solution
pub record IsEquationOf (p : Problem) (at : List Mark) (quantity : (ℕ → ℤ) → ℤ) (scale : ℕ) (form : List Term)
    (const : ℤ) : Type 0 where
  pub scale_positive : 0 < scale
  pub outside : (v : ℕ) → coefficient v form ≢ pos 0
      → Contains (map place (marks_of (lines p))) v × (IsIn v at → ⊥)
  pub holds : (x : Point) → Solves p x → pos scale *ℤ quantity x.num
      ≡ value_at x.num form +ℤ const *ℤ x.num one_column

-- `low` and the parts are the scale and the numbers in joint lowest terms
pub record AreLowest (scale : ℕ) (number : ℕ → ℤ) (low : ℕ) (part : ℕ → ℤ) : Type 0 where
  pub low_positive : 0 < low
  pub same : (v : ℕ) → pos scale *ℤ part v ≡ pos low *ℤ number v
  pub lowest : (k : ℕ) → k ∣ low → ((v : ℕ) → k ∣ unsigned_abs (part v)) → k ≡ 1

-- the equation's lowest terms, and its constant as a fraction in lowest terms, do not all fit
abbrev pub IsUnfitEquation : ℕ → List Term → ℤ → Type 0
IsUnfitEquation scale form const = (low : ℕ) (part : ℕ → ℤ) (value : Fraction)
    → AreLowest scale (λ v. coefficient v form) low part → IsRatio value const (pos scale)
    → IsFitting (pos low) → ((v : ℕ) → IsFitting (part v)) → IsKept value → ⊥

-- ---- of a level's cost

-- the level's scale, multipliers and reduced costs
pub record IsLevelSum (p : Problem) (at : List Mark) (level scale : ℕ) (times : RowName → ℤ)
    (reduced : ℕ → ℤ) : Type 0 where
  pub scale_positive : 0 < scale
  pub cancel : (v : ℕ) → sum_of (λ l. times l.name *ℤ coefficient v l.form) (lines p) ≡ pos 0
  pub columns : (side : Side) → All (λ l. pos l.scale *ℤ reduced (place_of l.name side)
      ≡ column (alone scale times) side l level) (lines p)
  pub inside_zero : (side : Side) → All (λ l. IsIn (place_of l.name side) at
      → reduced (place_of l.name side) ≡ pos 0) (lines p)

-- `low`, `part` and `rest` are the scale, the multipliers and the reduced costs in joint lowest terms
pub record AreLowestNumbers (p : Problem) (scale : ℕ) (times : RowName → ℤ) (reduced : ℕ → ℤ) (low : ℕ)
    (part : RowName → ℤ) (rest : ℕ → ℤ) : Type 0 where
  pub low_positive : 0 < low
  pub same : All (λ l. (pos scale *ℤ part l.name ≡ pos low *ℤ times l.name)
      × ((pos scale *ℤ rest (place_of l.name Under) ≡ pos low *ℤ reduced (place_of l.name Under))
      × (pos scale *ℤ rest (place_of l.name Over) ≡ pos low *ℤ reduced (place_of l.name Over)))) (lines p)
  pub lowest : (k : ℕ) → k ∣ low → All (λ l. (k ∣ unsigned_abs (part l.name))
      × (k ∣ unsigned_abs (rest (place_of l.name Under))) × (k ∣ unsigned_abs (rest (place_of l.name Over))))
      (lines p) → k ≡ 1

-- the level's lowest terms, and its cost at the corner as a fraction in lowest terms, do not all fit
abbrev pub IsUnfitSum : Problem → List Mark → ℕ → ℕ → (RowName → ℤ) → (ℕ → ℤ) → Type 0
IsUnfitSum p at level scale times reduced = (low : ℕ) (part : RowName → ℤ) (rest : ℕ → ℤ) (value : Fraction)
    → AreLowestNumbers p scale times reduced low part rest → IsCostAt p at level value
    → AreFitting p low part rest → IsKept value → ⊥
