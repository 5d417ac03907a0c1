use Rattle.std.proofs.Common.{rules}
use Rattle.std.proofs.lemmas.List.Sorted.{answers_always}
use Rattle.row_core.specs.Rows.{Term}
use Rattle.row_core.proofs.Places.{searched}
use Rattle.row_core.proofs.row.place_by_halves.Goals as goal

-- the closure gives an entry's column
pub returns : goal.returns
returns c =
    let facts = c.binary_search_by_key.ensures in
    let by_col = facts.position (λ (t : Term). t.col) (answers_always _ _ _ (λ f a r g called. search rules)) in
    rw c.ok.ensures.value (searched c.args.entries.now c.args.col.0 c.binary_search_by_key.result c.requires facts.bound by_col)
