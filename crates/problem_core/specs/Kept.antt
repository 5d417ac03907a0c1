-- What the types of rows, problems and values keep.
use Rattle.std.specs.Prelude.{◌≢◌, ℕ, ◌<◌, ◌≤◌, List, length, pos, All, AllPairs}
use Rattle.std.specs.Int.RustNames.{unsigned_abs}
use Rattle.frac_core.specs.Fraction.{Fraction, IsKept}
use Rattle.problem_core.specs.declared.parts.Term.{Term}
use Rattle.problem_core.specs.declared.parts.Stay.{Stay}
use Rattle.problem_core.specs.Layout.{Row, Problem, IsCovered}
use Rattle.problem_core.specs.declared.limits.TheConstants.{COEFFICIENT_LIMIT, NUMBER_LIMIT, REQUIRED}
use Rattle.problem_core.specs.declared.limits.TheConstants.{ROW_LIMIT, TERM_LIMIT, WEIGHT_LIMIT}

-- a row's or an attribute's number
abbrev pub IsNumber : ℕ → Type 0
IsNumber n = (0 < n) × (n ≤ NUMBER_LIMIT)

-- the attribute times a number that isn't 0 and at most so large
pub record IsTerm (t : Term) : Type 0 where
  pub attr : IsNumber t.attr
  pub nonzero : t.by ≢ pos 0
  pub small : unsigned_abs t.by ≤ COEFFICIENT_LIMIT

-- what each row keeps: its numbers, its terms and their count are within the limits, the constant is in
-- lowest terms and fits, and the terms come by rising attribute
pub record IsRow (r : Row) : Type 0 where
  pub number : IsNumber r.id
  pub rank : r.rank ≤ REQUIRED
  pub weight : (0 < r.weight) × (r.weight ≤ WEIGHT_LIMIT)
  pub scale : (0 < r.scale) × (r.scale ≤ COEFFICIENT_LIMIT)
  pub constant : IsKept r.constant
  pub terms : All IsTerm r.terms
  pub rising : AllPairs (λ s t. s.attr < t.attr) r.terms
  pub count : length r.terms ≤ TERM_LIMIT

-- what each stay keeps: its attribute's number is within the limits, its target is in lowest terms and fits
pub record IsStay (s : Stay) : Type 0 where
  pub attr : IsNumber s.attr
  pub target : IsKept s.target

-- what each problem keeps: rows by rising number, at most one stay for an attribute and one for each of those
-- in rows, no more rows or stays than the limit, and what each of these keeps
pub record IsWhole (p : Problem) : Type 0 where
  pub rows : All IsRow p.rows
  pub stays : All IsStay p.stays
  pub rising : AllPairs (λ r s. r.id < s.id) p.rows
  pub apart : AllPairs (λ s t. s.attr ≢ t.attr) p.stays
  pub covered : All (IsCovered p.stays) p.rows
  pub row_count : length p.rows ≤ ROW_LIMIT
  pub stay_count : length p.stays ≤ ROW_LIMIT

-- attributes with their values, by number
abbrev pub AreRising : List (ℕ × Fraction) → Type 0
AreRising pairs = AllPairs (λ u v. u.0 < v.0) pairs
