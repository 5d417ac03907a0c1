-- The priorities at which something is lacking.
use Rattle.std.specs.Prelude.{◌≡◌, ◌≢◌, ℕ, ◌<◌, ◌≤◌, List, pos, All, AllPairs}
use Rattle.frac_core.specs.Fraction.{Fraction, IsLowest}
use Rattle.problem_core.specs.declared.limits.TheConstants.{REQUIRED}
use Rattle.problem_core.specs.Layout.{Problem, cost, lines, rank_level}
use Rattle.cert_checker.specs.Certifying.{EachGiven}
use Rattle.certificates.specs.Errors.{IsLevelCost}

-- of the priorities from the one below that of required rows down to the last, each at which the weighted
-- errors have a sum that is not 0 where the attributes have these values, with this sum; no other
pub record AreCosts (p : Problem) (values : List (ℕ × Fraction)) (last : ℕ) (costs : List (ℕ × Fraction))
    : Type 0 where
  pub sums : All (λ c. (last ≤ c.0) × (c.0 < REQUIRED)
      × EachGiven values (λ x. IsLevelCost p x (rank_level c.0) c.1)) costs
  pub lowest : All (λ c. IsLowest c.1) costs
  pub lacking : All (λ c. c.1.num ≢ pos 0) costs
  pub falling : AllPairs (λ c d. d.0 < c.0) costs
  pub all : (rank : ℕ) → last ≤ rank → rank < REQUIRED → All (λ c. c.0 ≢ rank) costs
      → EachGiven values (λ x. cost (lines p) x (rank_level rank) ≡ 0)
