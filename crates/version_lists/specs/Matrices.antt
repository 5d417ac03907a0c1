-- What a contract sees of an `IndexedRows`.
use Rattle.std.specs.Prelude.{ℕ, ◌<◌, List, All}
use Rattle.row_core.specs.Rows.{Term}

-- the rows of now, and those of each earlier version, the newest first
pub record Matrices : Type 0 where
  pub rows : List (List Term)
  pub before : List (List (List Term))

-- each column of the row is below n
abbrev pub IsBelow : ℕ → List Term → Type 0
IsBelow n row = All (λ t. t.col < n) row
