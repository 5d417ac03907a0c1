use Rattle.std.proofs.Common.{◌≡◌, ◌∙◌, ◌<◌, suc, length, slice_index_or, List, [], Some, ap, ap₂, subst, sym, arith, ℕ}
use Rattle.std.proofs.lemmas.Option.{get_or_from_slice_get}
use Rattle.row_core.specs.Rows.{Term}
use Rattle.version_lists.specs.Lists.{HasColumn}
use Rattle.problem_core.specs.declared.parts.RowName.{RowName}
use Rattle.corner_table.specs.Tables.{lists_of, problem_of, row_at}
use Rattle.corner_writings.specs.Entries.{columns_but}
use Rattle.corner_writings.proofs.Readings.EntryFacts.{column_slot, count_but, entry_at, few_columns, line_at, row_has, row_in, row_kept, slot_in}
use Rattle.corner_view.proofs.Facts.{mark_named}
use Rattle.corner_table.proofs.Readings.WritingFacts.{in_mark}
use Rattle.corner_writings.proofs.writings.entry_in.Goals as goal

pub line_slot-w-requires-clause-row : goal.line_slot-w-requires-clause-row
line_slot-w-requires-clause-row c = mark_named (problem_of (lists_of c.args.table.now)) c.args.mark (in_mark (lists_of c.args.table.now) c.args.mark c.requires.kept c.requires.inside)

pub column_but-requires-clause-within : goal.column_but-requires-clause-within
column_but-requires-clause-within c =
    let h = c.requires.within in
    let same : row_in (lists_of c.args.table.now) c.args.mark ≡ c.entries.result.now =
    ap (row_at (lists_of c.args.table.now)) (sym c.line_slot-w.ensures.value) ∙ get_or_from_slice_get c.args.table.now.matrix.rows c.line_slot-w.result c.row.result.now [] c.row.ensures.value ∙ sym c.entries.ensures.value in
    let few = few_columns (lists_of c.args.table.now) c.args.mark h.0 c.args.i c.requires.kept c.requires.inside h.1 h.2 in
    let count : suc (length (columns_but (slot_in (lists_of c.args.table.now) c.args.mark) (row_in (lists_of c.args.table.now) c.args.mark))) ≡ length c.entries.result.now =
    count_but (slot_in (lists_of c.args.table.now) c.args.mark) (row_in (lists_of c.args.table.now) c.args.mark) (row_kept (lists_of c.args.table.now) c.args.mark c.requires.kept c.requires.inside).lowest.rising (row_has (lists_of c.args.table.now) c.args.mark c.requires.kept c.requires.inside)
    ∙ ap length same in
    omega (arith, count, few)

pub column_but-requires-clause-has : goal.column_but-requires-clause-has
column_but-requires-clause-has c =
    let same : row_in (lists_of c.args.table.now) c.args.mark ≡ c.entries.result.now =
    ap (row_at (lists_of c.args.table.now)) (sym c.line_slot-w.ensures.value) ∙ get_or_from_slice_get c.args.table.now.matrix.rows c.line_slot-w.result c.row.result.now [] c.row.ensures.value ∙ sym c.entries.ensures.value in
    subst (λ w. HasColumn w c.entries.result.now) (sym c.line_slot-w.ensures.value)
    (subst (λ (row : List Term). HasColumn (slot_in (lists_of c.args.table.now) c.args.mark) row) same (row_has (lists_of c.args.table.now) c.args.mark c.requires.kept c.requires.inside))

pub name_at-requires : goal.name_at-requires
name_at-requires c =
    let h = c.requires.within in
    let same : row_in (lists_of c.args.table.now) c.args.mark ≡ c.entries.result.now =
    ap (row_at (lists_of c.args.table.now)) (sym c.line_slot-w.ensures.value) ∙ get_or_from_slice_get c.args.table.now.matrix.rows c.line_slot-w.result c.row.result.now [] c.row.ensures.value ∙ sym c.entries.ensures.value in
    let column : c.column_but.result ≡ slice_index_or (columns_but (slot_in (lists_of c.args.table.now) c.args.mark) (row_in (lists_of c.args.table.now) c.args.mark)) c.args.i 0 =
    c.column_but.ensures ∙ ap₂ (λ (w : ℕ) (row : List Term). slice_index_or (columns_but w row) c.args.i 0) c.line_slot-w.ensures.value (sym same) in
    subst (λ n. n < length c.args.table.now.slots.items) (sym column)
    (column_slot (lists_of c.args.table.now) c.args.mark c.args.i c.requires.kept c.requires.inside (few_columns (lists_of c.args.table.now) c.args.mark h.0 c.args.i c.requires.kept c.requires.inside h.1 h.2)).1

pub returns : goal.returns
returns c = λ names are.
    let h = c.requires.within in
    let same : row_in (lists_of c.args.table.now) c.args.mark ≡ c.entries.result.now =
    ap (row_at (lists_of c.args.table.now)) (sym c.line_slot-w.ensures.value) ∙ get_or_from_slice_get c.args.table.now.matrix.rows c.line_slot-w.result c.row.result.now [] c.row.ensures.value ∙ sym c.entries.ensures.value in
    let column : c.column_but.result ≡ slice_index_or (columns_but (slot_in (lists_of c.args.table.now) c.args.mark) (row_in (lists_of c.args.table.now) c.args.mark)) c.args.i 0 =
    c.column_but.ensures ∙ ap₂ (λ (w : ℕ) (row : List Term). slice_index_or (columns_but w row) c.args.i 0) c.line_slot-w.ensures.value (sym same) in
    entry_at (lists_of c.args.table.now) c.args.mark names c.args.i c.requires.kept c.requires.inside are (few_columns (lists_of c.args.table.now) c.args.mark h.0 c.args.i c.requires.kept c.requires.inside h.1 h.2)
    ∙ ap (λ (n : RowName). Some n) (ap (line_at (lists_of c.args.table.now)) (sym column) ∙ sym c.name_at.ensures)
