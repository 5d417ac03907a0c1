-- Lines' equations on both sides of an exchange.
use Rattle.std.specs.Prelude.{◌≡◌, ◌≢◌, ◌⊎◌, ◌↔◌, ℕ, ◌<◌, ◌*◌, List, ℤ, pos, ◌+ℤ◌, ◌*ℤ◌, neg_ℤ, All}
use Rattle.frac_core.specs.Fraction.{Fraction, IsRatio, sum_den, sum_num}
use Rattle.problem_core.specs.declared.parts.Mark.{Mark}
use Rattle.problem_core.specs.declared.parts.RowName.{RowName}
use Rattle.problem_core.specs.declared.parts.Side.{Side}
use Rattle.problem_core.specs.Layout.{Line, Problem, lines}
use Rattle.problem_core.specs.Window.{zero_fraction}
use Rattle.problem_core.specs.Corners.{Swap, exchanged, place_of}
use Rattle.problem_core.specs.Rays.{IsRay}
use Rattle.corner_lines.specs.LineEquations.{IsLineEquation, IsLineSum, deviation, sign_of}

-- ---- numbers

-- the leaving line's numbers, solved for the entering line, whose number there has this sign
pub record IsPivotRow (ls : List Line) (enter leave : RowName) (way : Side) (own : ℕ) (by : RowName → ℤ)
    (pivot : ℕ) (to : RowName → ℤ) : Type 0 where
  pub pivot_positive : 0 < pivot
  pub size : pos pivot ≡ sign_of way *ℤ by enter
  pub at_enter : to enter ≡ pos 0
  pub at_leave : to leave ≡ sign_of way *ℤ pos own
  pub others : All (λ l. l.name ≢ enter → l.name ≢ leave → to l.name ≡ neg_ℤ (sign_of way *ℤ by l.name)) ls

-- the numbers with the entering line's number replaced by its own row
pub record IsExchangedRow (ls : List Line) (enter : RowName) (pivot : ℕ) (to by result : RowName → ℤ)
    : Type 0 where
  pub at_enter : result enter ≡ pos 0
  pub others : All (λ l. l.name ≢ enter
      → result l.name ≡ pos pivot *ℤ by l.name +ℤ by enter *ℤ to l.name) ls

-- ---- laws

-- the leaving line's equation gives the entering line's equation at the next corner: its value is the leaving
-- line's times `own` over the entering line's number there, with the other sign
abbrev pub IsResolved : Problem → List Mark → Swap → Type 0
IsResolved p at s = (way : Side) (own : ℕ) (by : RowName → ℤ) (value : Fraction)
    (pivot : ℕ) (to : RowName → ℤ) (num : ℤ) (den : ℕ)
    → IsLineEquation p at (deviation s.leave.row) own by value.num value.den
    → IsPivotRow (lines p) s.enter.row s.leave.row way own by pivot to
    → 0 < den → IsRatio (record { num = num; den = den })
    (sum_num zero_fraction (neg_ℤ (sign_of way *ℤ pos own)) (pos pivot) value)
    (sum_den zero_fraction (pos pivot) value)
    → IsLineEquation p (exchanged s at) (deviation s.enter.row) pivot to num den

-- a quantity's equation, with the entering line's equation substituted for its deviation: its value has grown
-- by the number over `own` times the entering line's value
abbrev pub IsCarried : Problem → List Mark → Swap → ((ℕ → ℤ) → ℤ) → Type 0
IsCarried p at s quantity = (own : ℕ) (by : RowName → ℤ) (value : Fraction)
    (pivot : ℕ) (to : RowName → ℤ) (enters : Fraction) (result : RowName → ℤ) (num : ℤ) (den : ℕ)
    → IsLineSum p at quantity own by value.num value.den
    → IsLineSum p (exchanged s at) (deviation s.enter.row) pivot to enters.num enters.den
    → IsExchangedRow (lines p) s.enter.row pivot to by result
    → 0 < den → IsRatio (record { num = num; den = den })
    (sum_num value (by s.enter.row) (pos own) enters) (sum_den value (pos own) enters)
    → IsLineSum p (exchanged s at) quantity (pivot * own) result num den

-- an equation without the entering line stays
abbrev pub StaysWithout : Problem → List Mark → Swap → Type 0
StaysWithout p at s = (quantity : (ℕ → ℤ) → ℤ) (own : ℕ) (by : RowName → ℤ) (num : ℤ) (den : ℕ)
    → IsLineEquation p at quantity own by num den → by s.enter.row ≡ pos 0
    → IsLineEquation p (exchanged s at) quantity own by num den

-- all equations stay
abbrev pub AllStay : Problem → List Mark → Swap → Type 0
AllStay p at s = (quantity : (ℕ → ℤ) → ℤ) (own : ℕ) (by : RowName → ℤ) (num : ℤ) (den : ℕ)
    → IsLineEquation p at quantity own by num den → IsLineEquation p (exchanged s at) quantity own by num den

-- a column moves when a mark of this line grows, exactly if the line has a number in its equation
abbrev pub MovesByLine : Problem → List Mark → RowName → Side → ℕ → Type 0
MovesByLine p at name side c = (own : ℕ) (by : RowName → ℤ) (num : ℤ) (den : ℕ) (ray : ℕ → ℤ)
    → IsRay p at (place_of name side) ray → IsLineEquation p at (λ x. x c) own by num den
    → (ray c ≢ pos 0) ↔ (by name ≢ pos 0)

-- an inside mark moves there exactly if the line has a number in the equation of its line, or is its line
abbrev pub MarkMovesByLine : Problem → List Mark → RowName → Side → RowName → Side → Type 0
MarkMovesByLine p at name side inside to = (own : ℕ) (by : RowName → ℤ) (num : ℤ) (den : ℕ) (ray : ℕ → ℤ)
    → IsRay p at (place_of name side) ray → IsLineEquation p at (deviation inside) own by num den
    → (ray (place_of inside to) ≢ pos 0) ↔ ((by name ≢ pos 0) ⊎ (inside ≡ name))
