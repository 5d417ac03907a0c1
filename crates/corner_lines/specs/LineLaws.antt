-- The statements of the laws of lines' equations.
use Rattle.std.specs.Prelude.{◌≡◌, ◌≢◌, ℕ, ◌<◌, List, ℤ, pos, ◌*ℤ◌, All}
use Rattle.frac_core.specs.Fraction.{Fraction, Fits, IsFitting, IsLowest, IsRatio}
use Rattle.problem_core.specs.declared.parts.Mark.{Mark}
use Rattle.problem_core.specs.declared.parts.RowName.{RowName}
use Rattle.problem_core.specs.declared.parts.Side.{Side}
use Rattle.problem_core.specs.Layout.{Problem, coefficient, lines}
use Rattle.problem_core.specs.Corners.{place_of}
use Rattle.problem_core.specs.Unfit.{HasNoWriting, IsWritingOf}
use Rattle.corner_lines.specs.LineEquations.{AreReduced, HasValue, IsLineEquation, IsLineSum, IsUnfitLine}
use Rattle.corner_laws.specs.Runs.{other_side}
use Rattle.corner_lines.specs.LineEquations.{deviation, inside_form, mark_form, sign_of}

-- ---- writings

-- a line's equation of the quantity is its writing, and has its value
abbrev pub IsWritten : Problem → List Mark → ((ℕ → ℤ) → ℤ) → Type 0
IsWritten p at quantity = (own : ℕ) (by : RowName → ℤ) (num : ℤ) (den : ℕ)
    → IsLineEquation p at quantity own by num den
    → IsWritingOf p at quantity own (mark_form by (lines p)) num den × HasValue p at quantity num den

-- an equation of the line's deviation gives the writing and the value of its mark of this side
abbrev pub IsMarkWritten : Problem → List Mark → RowName → Side → Type 0
IsMarkWritten p at name side = (own : ℕ) (by : RowName → ℤ) (num : ℤ) (den : ℕ)
    → IsLineEquation p at (deviation name) own by num den
    → IsWritingOf p at (λ x. x (place_of name side)) own (inside_form side name own by (lines p))
    (sign_of side *ℤ num) den
    × HasValue p at (λ x. x (place_of name side)) (sign_of side *ℤ num) den

-- the coefficient of each line's mark is the line's number, with the mark's sign
abbrev pub HasLineNumbers : Problem → (RowName → ℤ) → Type 0
HasLineNumbers p by = (side : Side) → All (λ l.
    coefficient (place_of l.name side) (mark_form by (lines p)) ≡ sign_of side *ℤ by l.name) (lines p)

-- in an inside mark's writing the other mark of its line has `own`, and each other line's marks have the
-- line's number with both signs
abbrev pub HasMarkNumbers : Problem → List Mark → RowName → Side → Type 0
HasMarkNumbers p at name side = (own : ℕ) (by : RowName → ℤ) (num : ℤ) (den : ℕ)
    → IsLineEquation p at (deviation name) own by num den
    → (coefficient (place_of name (other_side side)) (inside_form side name own by (lines p)) ≡ pos own)
    × ((to : Side) → All (λ l. l.name ≢ name
    → coefficient (place_of l.name to) (inside_form side name own by (lines p))
    ≡ sign_of to *ℤ (sign_of side *ℤ by l.name)) (lines p))

-- ---- lowest terms

-- the lowest terms of a line's sum, with its value as a fraction, are an equation
abbrev pub IsReducible : Problem → List Mark → ((ℕ → ℤ) → ℤ) → Type 0
IsReducible p at quantity = (own : ℕ) (by : RowName → ℤ) (num : ℤ) (den : ℕ)
    (low : ℕ) (part : RowName → ℤ) (value : Fraction)
    → IsLineSum p at quantity own by num den → AreReduced (lines p) own by low part
    → 0 < value.den → IsRatio value num (pos den)
    → IsLineEquation p at quantity low part value.num value.den

-- lowest terms that do not fit are the only ones
abbrev pub AreOnlyTerms : Problem → Type 0
AreOnlyTerms p = (own : ℕ) (by : RowName → ℤ) (low : ℕ) (part : RowName → ℤ) (num : ℤ) (den : ℕ)
    → AreReduced (lines p) own by low part
    → (IsFitting (pos low) → All (λ l. IsFitting (part l.name)) (lines p) → ⊥)
    → IsUnfitLine p own by num den

-- if the lowest terms of a line's sum do not fit, its quantity has no writing that fits
abbrev pub IsToldUnfit : Problem → List Mark → ((ℕ → ℤ) → ℤ) → Type 0
IsToldUnfit p at quantity = (own : ℕ) (by : RowName → ℤ) (num : ℤ) (den : ℕ)
    → IsLineSum p at quantity own by num den → IsUnfitLine p own by num den
    → HasNoWriting p at quantity

-- the same for a line's mark, by the sum of its deviation
abbrev pub IsMarkToldUnfit : Problem → List Mark → RowName → Side → Type 0
IsMarkToldUnfit p at name side = (own : ℕ) (by : RowName → ℤ) (num : ℤ) (den : ℕ)
    → IsLineSum p at (deviation name) own by num den → IsUnfitLine p own by num den
    → HasNoWriting p at (λ x. x (place_of name side))

-- a value that is no fraction that fits
abbrev pub IsUnfitValue : ℤ → ℕ → Type 0
IsUnfitValue num den = (f : Fraction) → IsLowest f → IsRatio f num (pos den) → Fits f → ⊥

-- ---- marks in another order

-- each equation at the first marks is one at the others
abbrev pub HoldInOtherOrder : Problem → List Mark → List Mark → Type 0
HoldInOtherOrder p at other = (quantity : (ℕ → ℤ) → ℤ) (own : ℕ) (by : RowName → ℤ) (num : ℤ) (den : ℕ)
    → IsLineEquation p at quantity own by num den → IsLineEquation p other quantity own by num den
