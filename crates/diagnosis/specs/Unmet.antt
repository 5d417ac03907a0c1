-- The rows that do not hold, and what they lack.
use Rattle.std.specs.Prelude.{◌≡◌, ◌≢◌, ℕ, ◌<◌, List, pos, All, AllPairs, Any}
use Rattle.frac_core.specs.Fraction.{Fraction, IsLowest}
use Rattle.problem_core.specs.declared.limits.TheConstants.{REQUIRED}
use Rattle.problem_core.specs.Layout.{Row, error, line_of_row}
use Rattle.cert_checker.specs.Certifying.{EachGiven}
use Rattle.certificates.specs.Errors.{IsErrorAt}

-- of these rows, by number, each that is not required and does not hold where the attributes have these
-- values, with its error, in which no weight counts; no other
pub record AreUnmet (rows : List Row) (values unmet : List (ℕ × Fraction)) : Type 0 where
  pub rows_are : All (λ u. Any (λ r. (r.id ≡ u.0) × (r.rank < REQUIRED)
      × EachGiven values (λ x. IsErrorAt x (line_of_row r) u.1)) rows) unmet
  pub lowest : All (λ u. IsLowest u.1) unmet
  pub lacking : All (λ u. u.1.num ≢ pos 0) unmet
  pub rising : AllPairs (λ u v. u.0 < v.0) unmet
  pub all : All (λ r. r.rank < REQUIRED → All (λ u. u.0 ≢ r.id) unmet
      → EachGiven values (λ x. error x (line_of_row r) ≡ 0)) rows
