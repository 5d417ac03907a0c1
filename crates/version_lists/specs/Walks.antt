-- The walk over the old and the new row of a slot, by rising columns.
use Rattle.std.specs.Prelude.{◌≡◌, ℕ, ◌<◌, ◌≤◌, List, ◌++◌, length, take, drop, All}
use Rattle.version_lists.specs.declared.rows.list.Column.{Column}
use Rattle.row_core.specs.Rows.{Term}
use Rattle.row_core.specs.Walks.{column_at}
use Rattle.version_lists.specs.Lists.{IsListedAt}
use Rattle.version_lists.specs.declared.rows.lists.RowChange.{RowChange}

-- the row has a place i, and its column there is below that of the other row at j
pub record IsNext (row : List Term) (i : ℕ) (other : List Term) (j : ℕ) : Type 0 where
  pub within : i < length row
  pub first : j < length other → column_at row i < column_at other j

-- the rows have places i and j, and there one column
pub record IsNextInBoth (row : List Term) (i : ℕ) (other : List Term) (j : ℕ) : Type 0 where
  pub left_within : i < length row
  pub right_within : j < length other
  pub one_column : column_at row i ≡ column_at other j

-- each of these columns is below those of the row from its place i on
abbrev pub IsBehind : List Term → List Term → ℕ → Type 0
IsBehind read row i = All (λ t. (m : ℕ) → i ≤ m → m < length row → t.col < column_at row m) read

-- the slot is listed for the first j entries of the new row and for the old row's from i on
pub record IsRelisted (change : RowChange) (i j : ℕ) (lists : List Column) : Type 0 where
  pub old_within : i ≤ length change.old.now
  pub new_within : j ≤ length change.new.now
  pub behind : IsBehind (take j change.new.now) change.old.now i
  pub listed : IsListedAt change.w (take j change.new.now ++ drop i change.old.now) lists
