use Rattle.std.proofs.Common.{◌≡◌, ◌∙◌, suc, map, length, [], ap, sym, arith}
use Rattle.std.proofs.lemmas.Option.{get_or_from_slice_get}
use Rattle.corner_table.specs.Tables.{lists_of, problem_of, row_at}
use Rattle.corner_writings.specs.Entries.{columns_but}
use Rattle.corner_writings.proofs.Readings.EntryFacts.{count_but, entries_are, line_at, row_has, row_in, row_kept, slot_in}
use Rattle.corner_view.proofs.Facts.{mark_named}
use Rattle.corner_table.proofs.Readings.WritingFacts.{in_mark}
use Rattle.corner_writings.proofs.writings.entries_in.Goals as goal
use Rattle.frac_core.proofs.Lists.{length-mapped as map_length}

pub line_slot-requires-clause-row : goal.line_slot-requires-clause-row
line_slot-requires-clause-row c = mark_named (problem_of (lists_of c.args.table.now)) c.args.mark (in_mark (lists_of c.args.table.now) c.args.mark c.requires.kept c.requires.inside)

pub overflow_sub-result : goal.overflow_sub-result
overflow_sub-result c =
    let same : row_in (lists_of c.args.table.now) c.args.mark ≡ c.entries.result.now =
    ap (row_at (lists_of c.args.table.now)) (sym c.line_slot.ensures.value) ∙ get_or_from_slice_get c.args.table.now.matrix.rows c.line_slot.result c.row.result.now [] c.row.ensures.value ∙ sym c.entries.ensures.value in
    let count : suc (length (columns_but (slot_in (lists_of c.args.table.now) c.args.mark) (row_in (lists_of c.args.table.now) c.args.mark))) ≡ length c.entries.result.now =
    count_but (slot_in (lists_of c.args.table.now) c.args.mark) (row_in (lists_of c.args.table.now) c.args.mark) (row_kept (lists_of c.args.table.now) c.args.mark c.requires.kept c.requires.inside).lowest.rising (row_has (lists_of c.args.table.now) c.args.mark c.requires.kept c.requires.inside)
    ∙ ap length same in
    omega (arith, count)

pub returns : goal.returns
returns c =
    let same : row_in (lists_of c.args.table.now) c.args.mark ≡ c.entries.result.now =
    ap (row_at (lists_of c.args.table.now)) (sym c.line_slot.ensures.value) ∙ get_or_from_slice_get c.args.table.now.matrix.rows c.line_slot.result c.row.result.now [] c.row.ensures.value ∙ sym c.entries.ensures.value in
    let count : suc (length (columns_but (slot_in (lists_of c.args.table.now) c.args.mark) (row_in (lists_of c.args.table.now) c.args.mark))) ≡ length c.entries.result.now =
    count_but (slot_in (lists_of c.args.table.now) c.args.mark) (row_in (lists_of c.args.table.now) c.args.mark) (row_kept (lists_of c.args.table.now) c.args.mark c.requires.kept c.requires.inside).lowest.rising (row_has (lists_of c.args.table.now) c.args.mark c.requires.kept c.requires.inside)
    ∙ ap length same in (
      map (line_at (lists_of c.args.table.now)) (columns_but (slot_in (lists_of c.args.table.now) c.args.mark) (row_in (lists_of c.args.table.now) c.args.mark)),
      entries_are (lists_of c.args.table.now) c.args.mark c.requires.kept c.requires.inside,
      map_length (line_at (lists_of c.args.table.now)) (columns_but (slot_in (lists_of c.args.table.now) c.args.mark) (row_in (lists_of c.args.table.now) c.args.mark))
          ∙ omega (arith, count),
    )
