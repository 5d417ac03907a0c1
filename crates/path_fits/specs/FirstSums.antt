-- Sums of rows' first terms at the corner where the route begins.
use Rattle.std.specs.Prelude.{◌≡◌, ℕ, ◌+◌, ◌<◌, ◌≤◌, List, length, get_or, ℤ, Any, Option, None, Some}
use Rattle.frac_core.specs.Fraction.{Fraction}
use Rattle.problem_core.specs.declared.parts.Stay.{Stay}
use Rattle.problem_core.specs.declared.parts.Term.{Term}
use Rattle.problem_core.specs.declared.stops.Quantity.{Quantity}
use Rattle.problem_core.specs.declared.stops.Quantity.TheVariants.{Terms}
use Rattle.problem_core.specs.Layout.{Problem, Row}
use Rattle.problem_core.specs.Unfit.{HasNoWriting, first_terms, over_mark}
use Rattle.path_lines.specs.declared.table.Inside.{Inside}
use Rattle.path_lines.specs.Walking.FirstLines.{AreFirstLines, IsTermsSum}
use Rattle.path_lines.specs.Route.{over_marks}
use Rattle.frac_core.specs.declared.memory.Stop.{Stop}
use Rattle.frac_core.specs.declared.memory.Stop.TheVariants.{Refused, OutOfMemory}
use Rattle.path_fits.specs.declared.firsts.UnfitTerms.{UnfitTerms}

-- the attribute's stay has this target
abbrev pub IsTarget : List Stay → ℕ → Fraction → Type 0
IsTarget stays attr value = Any (λ s. (s.attr ≡ attr) × (s.target ≡ value)) stays

-- the value of the sum of the row's first j terms
abbrev pub IsTermsValue : Problem → Row → ℕ → Fraction → Type 0
IsTermsValue p r j value = (by : List ℤ) × IsTermsSum p r j by value

-- the sum of the row's first j terms does not fit
abbrev pub IsUnfitSum : Problem → Row → ℕ → Type 0
IsUnfitSum p r j = HasNoWriting p (over_marks p) (first_terms r j)

-- the value of the sum with the term, whenever it is the next one
abbrev pub IsNextValue : Problem → Term → Fraction → Fraction → Type 0
IsNextValue p term value next = (r : Row) (j : ℕ) (d : Term) → j < length r.terms → get_or r.terms j d ≡ term
    → IsTermsValue p r j value → IsTermsValue p r (j + 1) next

-- the sum with the term does not fit, whenever it is the next one
abbrev pub IsNextTooMuch : Problem → Term → Fraction → Type 0
IsNextTooMuch p term value = (r : Row) (j : ℕ) (d : Term) → j < length r.terms → get_or r.terms j d ≡ term
    → IsTermsValue p r j value → IsUnfitSum p r (j + 1)

-- the sums of fewer first terms fit
abbrev pub DoFitBefore : Problem → Row → ℕ → Type 0
DoFitBefore p r j = (i : ℕ) → 1 ≤ i → i < j → IsUnfitSum p r i → ⊥

-- all sums of first terms fit, also that of all terms less the constant
abbrev pub AllSumsFit : Problem → Row → Type 0
AllSumsFit p r = DoFitBefore p r (length r.terms + 2)

-- the sum of the first j terms is the first that does not fit
pub record IsFirstUnfitSum (p : Problem) (r : Row) (j : ℕ) : Type 0 where
  pub low : 1 ≤ j
  pub high : j ≤ length r.terms + 1
  pub unfit : IsUnfitSum p r j
  pub before : DoFitBefore p r j

-- ---- the lines of rows

-- why a row's line is not made
abbrev pub IsLineStop : Problem → Row → Stop UnfitTerms → Type 0
IsLineStop p r (Refused terms) = IsFirstUnfitSum p r terms.first
IsLineStop p r OutOfMemory = Unit {0}

-- the lines of the first n rows are made, and all their sums fit
pub record AreMade (p : Problem) (n : ℕ) (lines : List (Option Inside)) : Type 0 where
  pub lines_are : AreFirstLines p n lines
  pub fit : (k : ℕ) (d : Row) → k < n → AllSumsFit p (get_or p.rows k d)

-- the sum is the first of the row at the place that does not fit
pub record IsStopAt (p : Problem) (at : ℕ) (sum : Quantity) : Type 0 where
  pub within : at < length p.rows
  pub row : Row
  pub row_is : (d : Row) → get_or p.rows at d ≡ row
  pub first : ℕ
  pub sum_is : sum ≡ Terms (over_mark row.id) first
  pub unfit : IsFirstUnfitSum p row first

-- the lines of all rows, or of the rows before a sum that does not fit
abbrev pub AreMadeUntil : Problem → List (Option Inside) → Option Quantity → Type 0
AreMadeUntil p lines None = AreMade p (length p.rows) lines
AreMadeUntil p lines (Some sum) = AreMade p (length lines) lines × IsStopAt p (length lines) sum
