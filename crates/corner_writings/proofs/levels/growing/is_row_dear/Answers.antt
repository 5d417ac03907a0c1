use Rattle.std.proofs.Common.{rules, ◌≡◌, ◌<◌, ◌≤◌, ◌∙◌, ◌+◌, ◌++◌, ◌∷◌, [], length, take, slice_index_or, subst, sym, true, List, ℕ}
use Rattle.std.proofs.lemmas.Option.{get_or_from_slice_get}
use Rattle.std.proofs.lemmas.List.Elements.{All-push}
use Rattle.row_core.specs.Rows.{IsKeptRow, Term}
use Rattle.corner_writings.specs.Growing.{IsEntryDear, IsRowDear}
use Rattle.corner_table.specs.Tables.{lists_of, row_at}
use Rattle.corner_writings.proofs.LevelFacts.GrowingFacts.{entry_line}
use Rattle.corner_table.proofs.Basics.ListFacts.{take_all, take_next}
use Rattle.corner_writings.proofs.levels.growing.is_row_dear.Goals as goal

pub is_entry_dear-requires-clause-line : goal.is_entry_dear-requires-clause-line
is_entry_dear-requires-clause-line c = λ ne.
    let same : row_at (lists_of c.args.table.now) c.args.w ≡ c.entries-e-items.result.now = get_or_from_slice_get c.args.table.now.matrix.rows c.args.w c.row.result.now [] c.row.ensures.value ∙ sym c.entries-e-items.ensures.value in
    let lt : c.loop-e.e-index < length c.entries-e-items.result.now = search rules in
    let is : slice_index_or c.entries-e-items.result.now c.loop-e.e-index c.e-item.result ≡ c.e-item.result = search rules in
    let kept : IsKeptRow c.entries-e-items.result.now = subst IsKeptRow (sym c.entries-e-items.ensures.value) c.row.ensures.kept in
    entry_line (lists_of c.args.table.now) c.args.w c.entries-e-items.result.now c.loop-e.e-index c.e-item.result c.requires.kept kept same is lt ne

pub loop-e-preserved : goal.loop-e-preserved
loop-e-preserved c =
    let same : row_at (lists_of c.args.table.now) c.args.w ≡ c.entries-e-items.result.now = get_or_from_slice_get c.args.table.now.matrix.rows c.args.w c.row.result.now [] c.row.ensures.value ∙ sym c.entries-e-items.ensures.value in
    let lt : c.loop-e.e-index < length c.entries-e-items.result.now = search rules in
    let is : slice_index_or c.entries-e-items.result.now c.loop-e.e-index c.e-item.result ≡ c.e-item.result = search rules in
    let next : take (c.loop-e.e-index + 1) (row_at (lists_of c.args.table.now) c.args.w) ≡ take c.loop-e.e-index (row_at (lists_of c.args.table.now) c.args.w) ++ (c.e-item.result ∷ []) =
    subst (λ (row : List Term). take (c.loop-e.e-index + 1) row ≡ take c.loop-e.e-index row ++ (c.e-item.result ∷ [])) (sym same) (take_next c.entries-e-items.result.now c.loop-e.e-index c.e-item.result lt is) in
    let yes : c.is_entry_dear.result ≡ true = search rules in
    subst (IsRowDear (lists_of c.args.table.now) c.args.w c.args.side c.args.l) (sym next)
    (All-push (IsEntryDear (lists_of c.args.table.now) c.args.w c.args.side c.args.l) (take c.loop-e.e-index (row_at (lists_of c.args.table.now) c.args.w)) c.e-item.result c.loop-e.invariant
    (subst (λ (k : ℕ). IsEntryDear (lists_of c.args.table.now) c.args.w c.args.side k c.e-item.result) c.level_read-read.ensures.slot (c.is_entry_dear.ensures yes)))

pub returns : goal.returns
returns c = λ _.
    let same : row_at (lists_of c.args.table.now) c.args.w ≡ c.entries-e-items.result.now = get_or_from_slice_get c.args.table.now.matrix.rows c.args.w c.row.result.now [] c.row.ensures.value ∙ sym c.entries-e-items.ensures.value in
    let le : length c.entries-e-items.result.now ≤ c.loop-e.e-index = search rules in
    subst (IsRowDear (lists_of c.args.table.now) c.args.w c.args.side c.args.l)
    (take_all (row_at (lists_of c.args.table.now) c.args.w) c.loop-e.e-index (subst (λ (row : List Term). length row ≤ c.loop-e.e-index) (sym same) le)) c.loop-e.invariant
