-- The lines that have a number in an inside mark's writing.
use Rattle.std.specs.Prelude.{◌≡◌, ◌≢◌, ℕ, cond, nat_eq, List, [], ◌∷◌}
use Rattle.row_core.specs.Rows.{Term}

-- the columns of the row but w
abbrev pub columns_but : ℕ → List Term → List ℕ
columns_but w [] = []
columns_but w (t ∷ row) = cond (nat_eq t.col w) (columns_but w row) (t.col ∷ columns_but w row)
