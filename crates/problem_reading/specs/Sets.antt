-- Lists as sets.
use Rattle.std.specs.Prelude.{ℕ, List, Contains}

-- the same numbers, in whatever order
pub record HaveSame (xs ys : List ℕ) : Type 0 where
  pub forth : (x : ℕ) → Contains xs x → Contains ys x
  pub back : (x : ℕ) → Contains ys x → Contains xs x
