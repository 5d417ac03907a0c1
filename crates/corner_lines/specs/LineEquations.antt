-- The equations of lines at a corner. Both marks of a line have opposite numbers, so a line has one number.
use Rattle.std.specs.Prelude.{◌≡◌, ◌≢◌, ℕ, ◌<◌, ◌*◌, List, [], ◌∷◌, ℤ, pos, negsuc, ◌-ℤ◌, ◌*ℤ◌, neg_ℤ}
use Rattle.std.specs.Prelude.{unsigned_abs, All}
use Rattle.std.specs.Int.{◌∣◌}
use Rattle.frac_core.specs.Fraction.{Fraction, IsFitting, IsKept, IsRatio}
use Rattle.problem_core.specs.declared.parts.Side.{Side}
use Rattle.problem_core.specs.declared.parts.Side.TheVariants.{Under, Over}
use Rattle.problem_core.specs.declared.parts.RowName.{RowName}
use Rattle.problem_core.specs.declared.parts.Mark.{Mark}
use Rattle.problem_core.specs.declared.parts.Term.{Term}
use Rattle.problem_core.specs.Layout.{Line, Problem, lines, sum_of}
use Rattle.problem_core.specs.Corners.{Point, Solves, StandsAt, IsIn, one_column, place_of}
use Rattle.corner_laws.specs.Runs.{other_side}

-- how far the line's left side is above its constant: the over deviation less the under one
abbrev pub deviation : RowName → (ℕ → ℤ) → ℤ
deviation name x = x (place_of name Over) -ℤ x (place_of name Under)

-- no mark of the line is inside
pub record IsOutsideLine (at : List Mark) (name : RowName) : Type 0 where
  pub under : IsIn (place_of name Under) at → ⊥
  pub over : IsIn (place_of name Over) at → ⊥

-- in each solution `own` times the quantity is `own` times `num / den` plus the sum of the outside lines'
-- deviations, each times its number; `own` and the numbers have no common factor
pub record IsLineEquation (p : Problem) (at : List Mark) (quantity : (ℕ → ℤ) → ℤ) (own : ℕ) (by : RowName → ℤ)
    (num : ℤ) (den : ℕ) : Type 0 where
  pub own_positive : 0 < own
  pub den_positive : 0 < den
  pub outside : All (λ l. by l.name ≢ pos 0 → IsOutsideLine at l.name) (lines p)
  pub holds : (x : Point) → Solves p x
      → pos den *ℤ (pos own *ℤ quantity x.num -ℤ sum_of (λ l. by l.name *ℤ deviation l.name x.num) (lines p))
      ≡ pos own *ℤ (num *ℤ x.num one_column)
  pub lowest : (k : ℕ) → k ∣ own → All (λ l. k ∣ unsigned_abs (by l.name)) (lines p) → k ≡ 1

-- the same, but `own` and the numbers may have a common factor
pub record IsLineSum (p : Problem) (at : List Mark) (quantity : (ℕ → ℤ) → ℤ) (own : ℕ) (by : RowName → ℤ)
    (num : ℤ) (den : ℕ) : Type 0 where
  pub own_positive : 0 < own
  pub den_positive : 0 < den
  pub outside : All (λ l. by l.name ≢ pos 0 → IsOutsideLine at l.name) (lines p)
  pub holds : (x : Point) → Solves p x
      → pos den *ℤ (pos own *ℤ quantity x.num -ℤ sum_of (λ l. by l.name *ℤ deviation l.name x.num) (lines p))
      ≡ pos own *ℤ (num *ℤ x.num one_column)

-- the quantity is `num / den` at the corner
abbrev pub HasValue : Problem → List Mark → ((ℕ → ℤ) → ℤ) → ℤ → ℕ → Type 0
HasValue p at quantity num den = (x : Point) × StandsAt p at x
    × (quantity x.num *ℤ pos den ≡ num *ℤ x.num one_column)

-- ---- lowest terms

-- `low` and the parts are `own` and the numbers without their common factor
pub record AreReduced (ls : List Line) (own : ℕ) (by : RowName → ℤ) (low : ℕ) (part : RowName → ℤ)
    : Type 0 where
  pub factor : ℕ
  pub factor_positive : 0 < factor
  pub low_positive : 0 < low
  pub own_same : factor * low ≡ own
  pub same : All (λ l. pos factor *ℤ part l.name ≡ by l.name) ls
  pub lowest : (k : ℕ) → k ∣ low → All (λ l. k ∣ unsigned_abs (part l.name)) ls → k ≡ 1

-- the lowest terms, and the value as a fraction in lowest terms, do not all fit
abbrev pub IsUnfitLine : Problem → ℕ → (RowName → ℤ) → ℤ → ℕ → Type 0
IsUnfitLine p own by num den = (low : ℕ) (part : RowName → ℤ) (value : Fraction)
    → AreReduced (lines p) own by low part → IsRatio value num (pos den)
    → IsFitting (pos low) → All (λ l. IsFitting (part l.name)) (lines p) → IsKept value → ⊥

-- ---- forms of marks

-- the sign of the deviation's change when a mark of this side grows
abbrev pub sign_of : Side → ℤ
sign_of Under = negsuc 0
sign_of Over = pos 1

-- the sum of the lines' deviations, as a form of marks
abbrev pub mark_form : (RowName → ℤ) → List Line → List Term
mark_form by [] = []
mark_form by (l ∷ ls) =
    record { attr = place_of l.name Over; by = by l.name }
    ∷ record { attr = place_of l.name Under; by = neg_ℤ (by l.name) }
    ∷ mark_form by ls

-- the form of the line's inside mark, of this side: it grows with the other mark, and as the deviation does
abbrev pub inside_form : Side → RowName → ℕ → (RowName → ℤ) → List Line → List Term
inside_form side name own by ls =
    record { attr = place_of name (other_side side); by = pos own } ∷ mark_form (λ n. sign_of side *ℤ by n) ls
