-- The lines of the corner where the route begins.
use Rattle.std.specs.Prelude.{◌≡◌, ℕ, ◌+◌, ◌*◌, ◌<◌, ◌≤◌, List, length, get_or, ℤ, unsigned_abs}
use Rattle.std.specs.Prelude.{All, Any, Option}
use Rattle.frac_core.specs.Fraction.{Fraction}
use Rattle.problem_core.specs.declared.limits.TheConstants.{COEFFICIENT_LIMIT, TERM_LIMIT}
use Rattle.problem_core.specs.declared.parts.Term.{Term}
use Rattle.problem_core.specs.Layout.{Problem, Row, lines}
use Rattle.problem_core.specs.Unfit.{IsUnfitTerms, first_terms, over_mark}
use Rattle.corner_lines.specs.LineEquations.{IsLineSum}
use Rattle.path_lines.specs.declared.first.Terms.{Terms}
use Rattle.path_lines.specs.declared.table.Inside.{Inside}
use Rattle.path_lines.specs.Route.{over_marks}
use Rattle.path_lines.specs.Tables.{IsLineAt, line_count, name_at, numbers_of}

-- the row is one of the problem's
abbrev pub IsRowOf : Problem → Row → Type 0
IsRowOf p r = Any (λ s. s ≡ r) p.rows

-- the sum of the row's first j terms by the stays' deviations, and its value
pub record IsTermsSum (p : Problem) (r : Row) (j : ℕ) (by : List ℤ) (value : Fraction) : Type 0 where
  pub count : length by ≡ line_count p
  pub small : All (λ z. unsigned_abs z ≤ j * COEFFICIENT_LIMIT) by
  pub sum : IsLineSum p (over_marks p) (first_terms r j) 1 (numbers_of (lines p) by) value.num value.den

-- each of the numbers has room for one more coefficient
abbrev pub HaveRoom : List ℤ → Type 0
HaveRoom numbers = All (λ z. unsigned_abs z ≤ TERM_LIMIT * COEFFICIENT_LIMIT) numbers

-- a sum of the row's first terms does not fit
abbrev pub HasUnfitTerms : Problem → Row → Type 0
HasUnfitTerms p r = (j : ℕ) × IsUnfitTerms p (over_marks p) (over_mark r.id) j

-- the sum with the term, whenever it is the next one
abbrev pub IsOneTermMore : Problem → Term → Terms → Terms → Type 0
IsOneTermMore p term sum next = (r : Row) (j : ℕ) (d : Term) → j < length r.terms → get_or r.terms j d ≡ term
    → IsTermsSum p r j sum.by.items sum.value → IsTermsSum p r (j + 1) next.by.items next.value

-- it does not fit
abbrev pub IsTermTooMuch : Problem → Term → Terms → Type 0
IsTermTooMuch p term sum = (r : Row) (j : ℕ) (d : Term) → IsRowOf p r → j < length r.terms
    → get_or r.terms j d ≡ term → IsTermsSum p r j sum.by.items sum.value → HasUnfitTerms p r

-- a sum of some row's first terms does not fit
abbrev pub HasUnfitFirst : Problem → Type 0
HasUnfitFirst p = Any (HasUnfitTerms p) p.rows

-- the first n lines at the corner where the route begins
pub record AreFirstLines (p : Problem) (n : ℕ) (kept : List (Option Inside)) : Type 0 where
  pub count : length kept ≡ n
  pub each : (k : ℕ) (d : Option Inside) → k < n → IsLineAt p (over_marks p) (name_at p k) (get_or kept k d)
