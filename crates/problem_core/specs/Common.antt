-- Least common multiples.
use Rattle.std.specs.Prelude.{ℕ, ◌<◌, List, All}
use Rattle.std.specs.Int.{◌∣◌}

-- the least common multiple of the numbers
pub record IsLeastCommon (xs : List ℕ) (d : ℕ) : Type 0 where
  pub above : 0 < d
  pub common : All (λ x. x ∣ d) xs
  pub least : (m : ℕ) → All (λ x. x ∣ m) xs → d ∣ m
