use Rattle.std.proofs.Common.{rules}
use Rattle.std.proofs.lemmas.List.Sorted.{answers_always}
use Rattle.problem_core.specs.Layout.{Row}
use Rattle.problem_core.proofs.RowPlaces.{searched}
use Rattle.problem_core.proofs.row.row_place.Goals as goal

-- the closure gives a row's number
pub returns : goal.returns
returns c =
    let facts = c.binary_search_by_key.ensures in
    let by_id = facts.position (λ (r : Row). r.id) (answers_always _ _ _ (λ f a r g called. search rules)) in
    rw c.ok.ensures.value (searched c.args.rows.now c.args.id c.binary_search_by_key.result c.requires facts.bound by_id)
