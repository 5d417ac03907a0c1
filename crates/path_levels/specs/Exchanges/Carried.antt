-- A level's row and a pivot put together.
use Rattle.std.specs.Prelude.{◌≡◌, ◌≢◌, ℕ, ◌<◌, ◌≤◌, length, ℤ, pos, ◌+ℤ◌, ◌*ℤ◌, ◌<ℤ◌, unsigned_abs}
use Rattle.std.specs.Int.{◌∣◌}
use Rattle.path_lines.specs.declared.exchange.Pivot.{Pivot}
use Rattle.path_lines.specs.declared.numbers.Wide.{Wide}
use Rattle.path_lines.specs.Numbers.{number_at}
use Rattle.path_levels.specs.declared.carried.Factors.{Factors}
use Rattle.path_levels.specs.declared.sums.LevelSum.{LevelSum}

-- a divisor of both, above 0
pub record IsCommonOf (size n common : ℤ) : Type 0 where
  pub above : pos 0 <ℤ common
  pub of_size : unsigned_abs common ∣ unsigned_abs size
  pub of_n : unsigned_abs common ∣ unsigned_abs n

-- the factors are as the size and n to each other, and no larger
pub record AreSharing (size n : ℤ) (factors : Factors) : Type 0 where
  pub above : pos 0 <ℤ factors.row
  pub same : factors.pivot *ℤ size ≡ n *ℤ factors.row
  pub row_most : unsigned_abs factors.row ≤ unsigned_abs size
  pub pivot_most : unsigned_abs factors.pivot ≤ unsigned_abs n

-- the row and the pivot, each times its factor, with `leaving` at the leaving line and 0 at the entering one
pub record IsCarriedBy (pivot : Pivot) (sum : LevelSum) (factors : Factors) (leaving : ℤ) (wide : Wide)
    : Type 0 where
  pub own_is : wide.own ≡ factors.row *ℤ sum.own
  pub count : length wide.by.items ≡ length sum.by.items
  pub enters : number_at wide.by.items pivot.step.enter.at ≡ pos 0
  pub leaves : pivot.step.enter.at ≢ pivot.step.leave.at
      → number_at wide.by.items pivot.step.leave.at ≡ leaving
  pub others : (k : ℕ) → k < length sum.by.items → k ≢ pivot.step.enter.at → k ≢ pivot.step.leave.at
      → number_at wide.by.items k
      ≡ factors.row *ℤ number_at sum.by.items k +ℤ factors.pivot *ℤ number_at pivot.by.items k
