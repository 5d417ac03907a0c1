-- The sum of a row's first terms after an exchange.
use Rattle.std.specs.Prelude.{◌≡◌, ◌⊎◌, ℕ, ◌+◌, ◌<◌, ◌≤◌, List, length, take, ℤ, pos, negsuc}
use Rattle.std.specs.Prelude.{◌+ℤ◌, ◌*ℤ◌, All, Any}
use Rattle.problem_core.specs.declared.parts.Mark.{Mark}
use Rattle.problem_core.specs.declared.parts.Term.{Term}
use Rattle.problem_core.specs.declared.stops.What.TheVariants.{Attr}
use Rattle.problem_core.specs.Layout.{HasStay, Problem, Row, sum_of}
use Rattle.problem_core.specs.Kept.{IsTerm}
use Rattle.problem_core.specs.Corners.{IsIn, attr_column, place_of}
use Rattle.problem_core.specs.declared.parts.Side.TheVariants.{Over}
use Rattle.frac_core.specs.Fraction.{Fraction, IsKept, IsRatio, sum_den, sum_num}
use Rattle.problem_core.specs.Unfit.{HasNoWriting, IsUnfitWhat, first_terms}
use Rattle.path_lines.specs.declared.table.Sum.{Sum}
use Rattle.path_lines.specs.Tables.{IsThere, name_at}
use Rattle.path_fits.specs.declared.last.terms.TermsStop.{TermsStop}
use Rattle.path_fits.specs.declared.last.terms.TermsStop.TheVariants.{UnfitAttr, UnfitTerms, OutOfMemory}
use Rattle.path_fits.specs.declared.last.Fit.{Fit}
use Rattle.path_fits.specs.declared.last.Fit.TheVariants.{Fits, Unfit, NoRoom}
use Rattle.path_fits.specs.Sums.{IsQuantitySum}

-- the quantity that these terms add up to
abbrev pub terms_of : List Term → (ℕ → ℤ) → ℤ
terms_of terms x = sum_of (λ t. t.by *ℤ x (attr_column t.attr)) terms

-- this is the sum of the quantity and `by` times the other
abbrev pub IsTermMore : Sum → ℤ → Sum → Sum → Type 0
IsTermMore sum by more next = (p : Problem) (at : List Mark) (q u : (ℕ → ℤ) → ℤ) → IsThere p at
    → IsQuantitySum p at q sum → IsQuantitySum p at u more → IsQuantitySum p at (λ x. q x +ℤ by *ℤ u x) next

-- the sum of the quantity and `by` times the other does not fit
abbrev pub IsTermUnfit : Sum → ℤ → Sum → Type 0
IsTermUnfit sum by more = (p : Problem) (at : List Mark) (q u : (ℕ → ℤ) → ℤ) → IsThere p at
    → IsQuantitySum p at q sum → IsQuantitySum p at u more → HasNoWriting p at (λ x. q x +ℤ by *ℤ u x)

-- an attribute of the terms does not fit, or the sum of so many of them does not
abbrev pub IsTermsStop : Problem → List Mark → List Term → TermsStop → Type 0
IsTermsStop p at terms (UnfitAttr attr) = Any (λ t. t.attr ≡ attr) terms × IsUnfitWhat p at (Attr attr)
IsTermsStop p at terms (UnfitTerms j) = (1 ≤ j) × (j ≤ length terms)
    × HasNoWriting p at (terms_of (take j terms))
IsTermsStop p at terms OutOfMemory = Unit {0}

-- each term's attribute has a stay
abbrev pub AreKnownTerms : Problem → List Term → Type 0
AreKnownTerms p terms = All (λ t. IsTerm t × HasStay p.stays t.attr) terms

-- only the sum with the term at this place does not fit
abbrev pub IsMoreStop : Sum → ℤ → Sum → ℕ → TermsStop → Type 0
IsMoreStop sum by more at (UnfitAttr attr) = ⊥
IsMoreStop sum by more at (UnfitTerms j) = (j ≡ at + 1) × IsTermUnfit sum by more
IsMoreStop sum by more at OutOfMemory = Unit {0}

-- only the attribute does not fit
abbrev pub IsAttrStop : Problem → List Mark → ℕ → TermsStop → Type 0
IsAttrStop p at attr (UnfitAttr other) = (other ≡ attr) × IsUnfitWhat p at (Attr attr)
IsAttrStop p at attr (UnfitTerms j) = ⊥
IsAttrStop p at attr OutOfMemory = Unit {0}

-- whether the sum of the row's first terms fits. Its parts are the sums of fewer terms and the terms'
-- attributes
abbrev pub IsRowFit : Problem → List Mark → Row → ℕ → Fit → Type 0
IsRowFit p at r first Fits = HasNoWriting p at (first_terms r first) → ⊥
IsRowFit p at r first Unfit = HasNoWriting p at (first_terms r first)
IsRowFit p at r first NoRoom = ((j : ℕ) × (1 ≤ j) × (j < first) × HasNoWriting p at (first_terms r j))
    ⊎ ((attr : ℕ) × Any (λ t. t.attr ≡ attr) (take first r.terms) × IsUnfitWhat p at (Attr attr))

-- the value less the constant fits
abbrev pub IsLessFitting : Fraction → Fraction → Type 0
IsLessFitting value constant = (f : Fraction) × IsKept f
    × IsRatio f (sum_num value (negsuc 0) (pos 1) constant) (sum_den value (pos 1) constant)

-- the rows from a place on, of so many, are over
abbrev pub AreOverAt : Problem → List Mark → (from rows : ℕ) → Type 0
AreOverAt p at from rows = (k : ℕ) → from ≤ k → k < rows → IsIn (place_of (name_at p k) Over) at
