use Rattle.std.proofs.Common.{rules, ◌≡◌, ◌<◌, ◌≤◌, ◌∙◌, ◌+◌, ◌++◌, ◌∷◌, [], length, take, slice_index_or, subst, sym, List}
use Rattle.std.proofs.lemmas.Option.{get_or_from_slice_get}
use Rattle.row_core.specs.Rows.{Term}
use Rattle.corner_table.specs.Reads.Listing.{IsListedBut}
use Rattle.corner_table.specs.Tables.{IsListedOf, lists_of, row_at}
use Rattle.corner_table.proofs.Basics.ListFacts.{one_gone, take_all, take_next}
use Rattle.corner_table.proofs.marking.list_row.Goals as goal

pub loop-e-preserved : goal.loop-e-preserved
loop-e-preserved c =
    let same : row_at (lists_of c.args.table.now) c.args.w ≡ c.entries-e-items.result.now = get_or_from_slice_get c.args.table.now.matrix.rows c.args.w c.row.result.now [] c.row.ensures.value ∙ sym c.entries-e-items.ensures.value in
    let lt : c.loop-e.e-index < length c.entries-e-items.result.now = search rules in
    let is : slice_index_or c.entries-e-items.result.now c.loop-e.e-index c.e-item.result ≡ c.e-item.result = search rules in
    let listed : IsListedBut c.args.w c.e-item.result.col c.loop-e.listed c.list_line.new.listed = search rules in
    let next : take (c.loop-e.e-index + 1) (row_at (lists_of c.args.table.now) c.args.w) ≡ take c.loop-e.e-index (row_at (lists_of c.args.table.now) c.args.w) ++ (c.e-item.result ∷ []) =
    subst (λ (row : List Term). take (c.loop-e.e-index + 1) row ≡ take c.loop-e.e-index row ++ (c.e-item.result ∷ [])) (sym same) (take_next c.entries-e-items.result.now c.loop-e.e-index c.e-item.result lt is) in
    subst (λ (row : List Term). IsListedOf c.args.w row c.args.listed.now c.list_line.new.listed) (sym next)
    (one_gone c.args.w (take c.loop-e.e-index (row_at (lists_of c.args.table.now) c.args.w)) c.e-item.result c.args.listed.now c.loop-e.listed c.list_line.new.listed c.loop-e.invariant listed)

pub returns : goal.returns
returns c =
    let same : row_at (lists_of c.args.table.now) c.args.w ≡ c.entries-e-items.result.now = get_or_from_slice_get c.args.table.now.matrix.rows c.args.w c.row.result.now [] c.row.ensures.value ∙ sym c.entries-e-items.ensures.value in
    let le : length c.entries-e-items.result.now ≤ c.loop-e.e-index = search rules in
    subst (λ (row : List Term). IsListedOf c.args.w row c.args.listed.now c.loop-e.listed)
    (take_all (row_at (lists_of c.args.table.now) c.args.w) c.loop-e.e-index (subst (λ (row : List Term). length row ≤ c.loop-e.e-index) (sym same) le)) c.loop-e.invariant
