-- A row joins over at a corner: the corner, its equations and the new row's, term by term.
use Rattle.std.specs.Prelude.{◌≡◌, ℕ, ◌+◌, ◌*◌, ◌<◌, ◌≤◌, List, [], ◌∷◌, ◌++◌, map, get_or, length}
use Rattle.std.specs.Prelude.{◌⊎◌, ℤ, pos, negsuc, ◌+ℤ◌, ◌*ℤ◌, ◌<ℤ◌, ◌≤ℤ◌, All}
use Rattle.frac_core.specs.Fraction.{Fraction, IsRatio, sum_den, sum_num}
use Rattle.problem_core.specs.declared.parts.Mark.{Mark}
use Rattle.problem_core.specs.declared.parts.RowName.{RowName}
use Rattle.problem_core.specs.declared.parts.RowName.TheVariants.{Held, Stay as StayOf}
use Rattle.problem_core.specs.declared.parts.Term.{Term}
use Rattle.problem_core.specs.declared.parts.Stay.{Stay}
use Rattle.problem_core.specs.Layout.{Line, Problem, Row, lines}
use Rattle.problem_core.specs.Corners.{attr_column, place}
use Rattle.problem_core.specs.Changes.Begins.{BeginsWith}
use Rattle.problem_core.specs.Unfit.{HasNoWriting, IsUnfitTerms, first_terms, over_mark, under_mark}
use Rattle.corner_laws.specs.Lifts.{with_rows}
use Rattle.corner_lines.specs.LineEquations.{HasValue, IsLineEquation, IsLineSum, deviation}

-- the problem with the row
abbrev pub with_row : Row → Problem → Problem
with_row r p = with_rows (r ∷ []) p

-- the marks with the row's over mark
abbrev pub over_joined : Row → List Mark → List Mark
over_joined r at = at ++ (over_mark r.id ∷ [])

-- the marks with the row's under mark, for a row whose value over would be below 0
abbrev pub under_joined : Row → List Mark → List Mark
under_joined r at = at ++ (under_mark r.id ∷ [])

-- ---- equations

-- the equations without the row hold with it
abbrev pub HoldWithRow : Problem → List Mark → Row → Type 0
HoldWithRow p at r = (quantity : (ℕ → ℤ) → ℤ) (own : ℕ) (by : RowName → ℤ) (num : ℤ) (den : ℕ)
    → IsLineEquation p at quantity own by num den → by (Held r.id) ≡ pos 0
    → IsLineEquation (with_row r p) (over_joined r at) quantity own by num den

-- the equations with the row over hold with it under
abbrev pub HoldUnder : Problem → List Mark → Row → Type 0
HoldUnder p at r = (quantity : (ℕ → ℤ) → ℤ) (own : ℕ) (by : RowName → ℤ) (num : ℤ) (den : ℕ)
    → IsLineEquation (with_row r p) (over_joined r at) quantity own by num den
    → IsLineEquation (with_row r p) (under_joined r at) quantity own by num den

-- the sum of two lists of numbers, the second taken `times` over
abbrev pub AreAdded : List Line → ℕ → (RowName → ℤ) → ℤ → ℕ → (RowName → ℤ) → (RowName → ℤ) → Type 0
AreAdded ls own by times own2 by2 result =
    All (λ l. result l.name ≡ pos own2 *ℤ by l.name +ℤ (pos own *ℤ times) *ℤ by2 l.name) ls

-- the sum of no terms is 0
abbrev pub HasNoTerms : Problem → List Mark → Row → Type 0
HasNoTerms p at r = (by : RowName → ℤ) → All (λ l. by l.name ≡ pos 0) (lines p)
    → IsLineEquation p at (first_terms r 0) 1 by (pos 0) 1

-- the sum of one more term, from the sum of the first i terms and the equation of the next one's attribute
abbrev pub GoesOn : Problem → List Mark → Row → Type 0
GoesOn p at r = (i : ℕ) (none : Term) (own : ℕ) (by : RowName → ℤ) (value : Fraction)
    (own2 : ℕ) (by2 : RowName → ℤ) (value2 : Fraction) (result : RowName → ℤ) (num : ℤ) (den : ℕ)
    → i < length r.terms → IsLineSum p at (first_terms r i) own by value.num value.den
    → IsLineSum p at (λ x. x (attr_column (get_or r.terms i none).attr)) own2 by2 value2.num value2.den
    → AreAdded (lines p) own by (get_or r.terms i none).by own2 by2 result
    → 0 < den → IsRatio (record { num = num; den = den })
    (sum_num value (get_or r.terms i none).by (pos 1) value2) (sum_den value (pos 1) value2)
    → IsLineSum p at (first_terms r (i + 1)) (own2 * own) result num den

-- the sum of all terms gives the row's deviation: the constant comes off its value
abbrev pub GivesDeviation : Problem → List Mark → Row → Type 0
GivesDeviation p at r = (own : ℕ) (by : RowName → ℤ) (value : Fraction) (num : ℤ) (den : ℕ)
    → IsLineSum p at (first_terms r (length r.terms)) own by value.num value.den
    → 0 < den → IsRatio (record { num = num; den = den })
    (sum_num value (negsuc 0) (pos 1) r.constant) (sum_den value (pos 1) r.constant)
    → IsLineSum p at (deviation (Held r.id)) own by num den

-- ---- the beginning of a path

-- the row's mark that is not negative, if its value has this numerator
abbrev pub IsJoinedBy : Row → Mark → ℤ → Type 0
IsJoinedBy r m num = ((m ≡ over_mark r.id) × (pos 0 ≤ℤ num)) ⊎ ((m ≡ under_mark r.id) × (pos 0 <ℤ num))

-- rows have joined one by one; one more joins with its mark that is not negative
abbrev pub BeginsWithMore : Problem → List Mark → List Mark → List Row → Row → Type 0
BeginsWithMore p kept at joined r = (m : Mark) (num : ℤ) (den : ℕ)
    → HasValue (with_row r p) (at ++ (m ∷ [])) (λ x. x (place m)) num den → 0 < den → IsJoinedBy r m num
    → BeginsWith (with_row r p) kept (joined ++ (r ∷ [])) [] (at ++ (m ∷ []))

-- ---- quantities that do not fit

-- if the sum of the first j terms has no writing that fits, it may be the quantity that a stop names
abbrev pub AreToldUnfit : Problem → List Mark → Row → Type 0
AreToldUnfit p at r = (j : ℕ) → 1 ≤ j → j ≤ length r.terms + 1
    → HasNoWriting (with_row r p) (over_joined r at) (first_terms r j)
    → IsUnfitTerms (with_row r p) (over_joined r at) (over_mark r.id) j

-- past the terms it is the over mark that has none
abbrev pub IsLastToldUnfit : Problem → List Mark → Row → Type 0
IsLastToldUnfit p at r = HasNoWriting (with_row r p) (over_joined r at) (λ x. x (place (over_mark r.id)))
    → IsUnfitTerms (with_row r p) (over_joined r at) (over_mark r.id) (length r.terms + 1)

-- ---- an attribute joins

-- the attribute's stay, at this target
abbrev pub new_stay : ℕ → Fraction → Stay
new_stay attr target = record { attr = attr; target = target }

-- the problem with the attribute, whose stay is the last one
abbrev pub with_attr : ℕ → Fraction → Problem → Problem
with_attr attr target p = record { rows = p.rows; stays = p.stays ++ (new_stay attr target ∷ []) }

-- the equations without the attribute hold with it
abbrev pub HoldWithAttr : Problem → List Mark → ℕ → Fraction → Type 0
HoldWithAttr p at attr target = (quantity : (ℕ → ℤ) → ℤ) (own : ℕ) (by : RowName → ℤ) (num : ℤ) (den : ℕ)
    → IsLineEquation p at quantity own by num den → by (StayOf attr) ≡ pos 0
    → IsLineEquation (with_attr attr target p) at quantity own by num den

-- the attribute is its stay's target plus its stay's deviation
abbrev pub IsOwnDeviation : Problem → List Mark → ℕ → Fraction → Type 0
IsOwnDeviation p at attr target = (by : RowName → ℤ) → by (StayOf attr) ≡ pos 1
    → All (λ l. by l.name ≡ pos 0) (lines p)
    → IsLineEquation (with_attr attr target p) at (λ x. x (attr_column attr)) 1 by target.num target.den

-- ---- stays move to the present values

-- the problem with these stays
abbrev pub with_stays : List Stay → Problem → Problem
with_stays stays p = record { rows = p.rows; stays = stays }

-- the same attributes, each with its value at the corner as its target
pub record HaveStood (p : Problem) (at : List Mark) (stays : List Stay) : Type 0 where
  pub same : map (λ s. s.attr) stays ≡ map (λ s. s.attr) p.stays
  pub positive : All (λ s. 0 < s.target.den) stays
  pub values : All (λ s. HasValue p at (λ x. x (attr_column s.attr)) s.target.num s.target.den) stays

-- the equation stays, numbers and value
abbrev pub StaysAsWritten : Problem → List Mark → List Stay → ((ℕ → ℤ) → ℤ) → Type 0
StaysAsWritten p at stays quantity = (own : ℕ) (by : RowName → ℤ) (num : ℤ) (den : ℕ)
    → IsLineEquation p at quantity own by num den
    → IsLineEquation (with_stays stays p) at quantity own by num den

-- the numbers of a stay's deviation stay, and its value is 0
abbrev pub ComesToZero : Problem → List Mark → List Stay → ℕ → Type 0
ComesToZero p at stays attr = (own : ℕ) (by : RowName → ℤ) (num : ℤ) (den : ℕ)
    → IsLineEquation p at (deviation (StayOf attr)) own by num den
    → IsLineEquation (with_stays stays p) at (deviation (StayOf attr)) own by (pos 0) 1
