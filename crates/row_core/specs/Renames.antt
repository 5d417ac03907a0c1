-- Rows whose columns have other places.
use Rattle.std.specs.Prelude.{ℕ, ◌<◌, List, map, length, slice_index_or, All, AllPairs}
use Rattle.row_core.specs.Rows.{Term}

-- the column that a column becomes, 0 past the last one
abbrev pub place_in : List ℕ → ℕ → ℕ
place_in places c = slice_index_or places c 0

-- the row with these columns in the places of its own
abbrev pub renamed : List ℕ → List Term → List Term
renamed places row = map (λ t. record { col = place_in places t.col; by = t.by }) row

-- the row's columns have places, which rise as they do
pub record AreKeptApart (places : List ℕ) (row : List Term) : Type 0 where
  pub within : All (λ t. t.col < length places) row
  pub rising : AllPairs (λ s t. place_in places s.col < place_in places t.col) row
