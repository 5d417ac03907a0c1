use Rattle.std.proofs.Common.{rules, ◌≡◌, ◌≢◌, ◌+◌, ◌-◌, ◌<◌, nat_eq, true, false, length, slice_index_or, sym, subst, ℕ}
use Rattle.problem_core.specs.declared.parts.RowName.TheVariants.{Held}
use Rattle.corner_table.specs.Tables.{line_slot, lists_of, problem_of, slot_at}
use Rattle.corner_view.specs.Seen.{IsNamed}
use Rattle.corner_table.specs.Reads.LevelNumbers.{IsCounted}
use Rattle.corner_writings.specs.Fitting.{IsFittingLine}
use Rattle.corner_table.proofs.Readings.MarkingFacts.{row_named}
use Rattle.corner_writings.proofs.LevelFacts.FittingLoops.{AreFittingSoFar, another_level, counted_named, one_joined}
use Rattle.corner_writings.proofs.levels.fitting.do_lines_fit.Goals as goal
use Rattle.corner_writings.proofs.levels.fitting.do_lines_fit.Goals.{then-level_at-draft+else-joined-draft+else-not-does_line_fit, else-level_at-draft}

pub line_slot-line-requires-clause-row : goal.line_slot-line-requires-clause-row
line_slot-line-requires-clause-row c =
    let lt : c.loop-row.row-index < length c.args.table.now.rows.items = search rules in
    let e : slice_index_or c.args.table.now.rows.items c.loop-row.row-index c.row-item.result ≡ c.row-item.result = search rules in
    subst (λ n. IsNamed (problem_of (lists_of c.args.table.now)) (Held n)) (sym c.id.ensures) (row_named (problem_of (lists_of c.args.table.now)) c.loop-row.row-index c.row-item.result lt e)

pub does_line_fit-requires-clause-counted : goal.does_line_fit-requires-clause-counted
does_line_fit-requires-clause-counted c =
    let lt : c.loop-row.row-index < length c.args.table.now.rows.items = search rules in
    let e : slice_index_or c.args.table.now.rows.items c.loop-row.row-index c.row-item.result ≡ c.row-item.result = search rules in
    subst (λ w. IsCounted (slot_at (lists_of c.args.table.now) w) c.args.draft.unit) (sym c.line_slot-line.ensures.value)
    (counted_named (lists_of c.args.table.now) (Held c.id.result) c.args.draft.unit c.requires.slots c.requires.whole c.requires.unit c.requires.unit_fits
    (subst (λ n. IsNamed (problem_of (lists_of c.args.table.now)) (Held n)) (sym c.id.ensures) (row_named (problem_of (lists_of c.args.table.now)) c.loop-row.row-index c.row-item.result lt e)))

pub loop-row-preserved : goal.loop-row-preserved
loop-row-preserved c =
    let lt : c.loop-row.row-index < length c.as_slice-row-items.result.now = search rules in
    let e : slice_index_or c.as_slice-row-items.result.now c.loop-row.row-index c.row-item.result ≡ c.row-item.result = search rules in
    elim c.if-level_at-draft.branch [
      | then-level_at-draft+else-joined-draft+else-not-does_line_fit w ↦
          let same : nat_eq (1000 - c.row-item.result.rank) c.args.draft.level ≡ true = search rules in
          let ne : c.loop-row.joined ≢ c.args.draft.rows = search rules in
          let fits : IsFittingLine (lists_of c.args.table.now) c.args.draft c.args.new.now (line_slot (lists_of c.args.table.now) (Held c.row-item.result.id)) = search rules in
          let joined : c.if-level_at-draft.joined ≡ c.loop-row.joined + 1 = search rules in
          subst (λ (j : ℕ). AreFittingSoFar (lists_of c.args.table.now) c.args.draft c.args.new.now j (c.loop-row.row-index + 1) c.as_slice-row-items.result.now) (sym joined)
          (one_joined (lists_of c.args.table.now) c.args.draft c.args.new.now c.loop-row.joined c.loop-row.row-index c.as_slice-row-items.result.now c.row-item.result lt e same ne fits c.loop-row.invariant)
      | else-level_at-draft w ↦
          let other : nat_eq (1000 - c.row-item.result.rank) c.args.draft.level ≡ false = search rules in
          subst (λ (j : ℕ). AreFittingSoFar (lists_of c.args.table.now) c.args.draft c.args.new.now j (c.loop-row.row-index + 1) c.as_slice-row-items.result.now) (sym w.joined-is)
          (another_level (lists_of c.args.table.now) c.args.draft c.args.new.now c.loop-row.joined c.loop-row.row-index c.as_slice-row-items.result.now c.row-item.result lt e other c.loop-row.invariant)
    ]
