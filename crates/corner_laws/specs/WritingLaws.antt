-- What holds of writings at a corner.
use Rattle.std.specs.Prelude.{◌≡◌, ◌≢◌, ◌⊎◌, ◌<◌, ℕ, List, ℤ, pos, ◌*ℤ◌, All, neg_ℤ}
use Rattle.frac_core.specs.Fraction.{Fraction, IsRatio}
use Rattle.problem_core.specs.Layout.{HasStay, Problem, Row, coefficient}
use Rattle.problem_core.specs.Kept.{IsWhole}
use Rattle.problem_core.specs.Corners.{IsCorner, IsIn, attr_column, place}
use Rattle.problem_core.specs.declared.parts.Mark.{Mark}
use Rattle.problem_core.specs.declared.parts.Term.{Term}
use Rattle.problem_core.specs.declared.parts.RowName.{RowName}
use Rattle.problem_core.specs.Unfit.{HasNoWriting, IsUnfitTerms, IsWritingOf, over_mark}
use Rattle.corner_laws.specs.Laws.{IsFixedAt, IsLinear, IsMarkAt}
use Rattle.corner_laws.specs.Lifts.{with_rows}
use Rattle.corner_laws.specs.Equations.{AreLowest, IsEquationOf, IsUnfitEquation}
use Rattle.problem_core.specs.Rays.{HasRays, IsRay}
use Rattle.corner_laws.specs.Sums.{IsRowOf}

-- two writings of one quantity at a corner have the same value
abbrev pub ValuesAreUnique : Type 0
ValuesAreUnique = (p : Problem) (at : List Mark) (quantity : (ℕ → ℤ) → ℤ) (s t : ℕ) (f g : List Term)
    (n m : ℤ) (d e : ℕ) → IsCorner p at → IsWritingOf p at quantity s f n d
    → IsWritingOf p at quantity t g m e → n *ℤ pos e ≡ m *ℤ pos d

-- two writings of one quantity at a corner are the same: the scale, each coefficient and the value
abbrev pub WritingsAreEqual : Type 0
WritingsAreEqual = (p : Problem) (at : List Mark) (quantity : (ℕ → ℤ) → ℤ) (s t : ℕ) (f g : List Term)
    (n m : ℤ) (d e : ℕ) → IsCorner p at → HasRays p at → IsWritingOf p at quantity s f n d
    → IsWritingOf p at quantity t g m e → (s ≡ t) × ((v : ℕ) → coefficient v f ≡ coefficient v g)
    × (n *ℤ pos e ≡ m *ℤ pos d)

-- the lowest terms of a quantity's equation are its writing, with the constant over the scale as its value
abbrev pub WritingFromEquation : Type 0
WritingFromEquation = (p : Problem) (at : List Mark) (quantity : (ℕ → ℤ) → ℤ) (scale : ℕ) (form : List Term)
    (const : ℤ) (low : ℕ) (part : List Term) (value : Fraction) → IsEquationOf p at quantity scale form const
    → AreLowest scale (λ v. coefficient v form) low (λ v. coefficient v part) → 0 < value.den
    → IsRatio value const (pos scale) → IsWritingOf p at quantity low part value.num value.den

-- where the lowest terms or the value of a quantity's equation do not fit, it has no writing that fits
abbrev pub UnfitFromEquation : Type 0
UnfitFromEquation = (p : Problem) (at : List Mark) (quantity : (ℕ → ℤ) → ℤ) (scale : ℕ) (form : List Term)
    (const : ℤ) → IsCorner p at → HasRays p at → IsEquationOf p at quantity scale form const
    → IsUnfitEquation scale form const → HasNoWriting p at quantity

-- a sum of a row's first terms that does not fit before later rows join does not fit where they have joined
-- over
abbrev pub TermsLift : Type 0
TermsLift = (p : Problem) (rest : List Row) (at joined : List Mark) (mark : Mark) (j : ℕ)
    → IsWhole (with_rows rest p) → IsCorner (with_rows rest p) joined → All (λ m. IsIn (place m) joined) at
    → All (λ r. IsIn (place (over_mark r.id)) joined) rest → IsUnfitTerms p at mark j
    → IsUnfitTerms (with_rows rest p) joined mark j

-- on an outside mark's ray each column moves by the mark's coefficient in the column's equation, over its
-- scale
abbrev pub RayIsColumn : Type 0
RayIsColumn = (p : Problem) (at : List Mark) (c v scale : ℕ) (ray : ℕ → ℤ) (form : List Term) (const : ℤ)
    → IsCorner p at → IsRay p at c ray → IsEquationOf p at (λ x. x v) scale form const
    → pos scale *ℤ ray v ≡ coefficient c form *ℤ ray c

-- how far an inside mark moves where an outside one grows: its writing's scale times the one is the outside
-- mark's coefficient times the other
abbrev pub WritingMoves : Type 0
WritingMoves = (p : Problem) (at : List Mark) (c scale : ℕ) (form : List Term) (num : ℤ) (den : ℕ) (v : ℕ)
    (ray : ℕ → ℤ) → IsCorner p at → IsWritingOf p at (λ x. x c) scale form num den → IsRay p at v ray
    → pos scale *ℤ ray c ≡ coefficient v form *ℤ ray v

-- an inside mark's writing is a row: its numbers are the scale at the mark itself, and the form's
-- coefficients, with the other sign, elsewhere
abbrev pub WritingIsRow : Type 0
WritingIsRow = (p : Problem) (at : List Mark) (c scale : ℕ) (form : List Term) (num : ℤ) (den : ℕ) → IsWhole p
    → IsCorner p at → IsIn c at → IsWritingOf p at (λ x. x c) scale form num den
    → (row : RowName → ℤ) × (entry : ℕ → ℤ) × IsRowOf p at c row entry × (entry c ≡ pos scale)
    × ((v : ℕ) → v ≢ c → entry v ≡ neg_ℤ (coefficient v form))

-- each quantity that the corner fixes has a writing: so where it has none that fits, that is not for want of
-- one
abbrev pub WritingExists : Type 0
WritingExists = (p : Problem) (at : List Mark) (quantity : (ℕ → ℤ) → ℤ) → IsCorner p at → HasRays p at
    → IsLinear quantity → IsFixedAt p at quantity
    → (scale : ℕ) × (form : List Term) × (num : ℤ) × (den : ℕ) × IsWritingOf p at quantity scale form num den

-- each mark and each attribute is such a quantity
abbrev pub ColumnHasWriting : Type 0
ColumnHasWriting = (p : Problem) (at : List Mark) (c : ℕ) → IsCorner p at → HasRays p at
    → IsMarkAt p c ⊎ ((attr : ℕ) × HasStay p.stays attr × (c ≡ attr_column attr))
    → (scale : ℕ) × (form : List Term) × (num : ℤ) × (den : ℕ)
    × IsWritingOf p at (λ x. x c) scale form num den
