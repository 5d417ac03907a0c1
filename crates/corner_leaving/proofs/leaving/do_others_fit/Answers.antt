use Rattle.std.proofs.Common.{rules, ◌≡◌, ◌≢◌, ◌-◌, ◌<◌, length, slice_index_or, sym, subst, ℕ}
use Rattle.problem_core.specs.declared.parts.RowName.TheVariants.{Held}
use Rattle.corner_table.specs.Tables.{line_slot, lists_of, problem_of, slot_at}
use Rattle.corner_view.specs.Seen.{IsNamed}
use Rattle.corner_table.specs.Reads.LevelNumbers.{IsCounted}
use Rattle.corner_writings.specs.Fitting.{IsFittingLine}
use Rattle.corner_table.proofs.Readings.MarkingFacts.{row_named}
use Rattle.corner_writings.proofs.LevelFacts.FittingLoops.{counted_named}
use Rattle.corner_leaving.proofs.Removals.LeavingFits.{FitsOther}
use Rattle.corner_leaving.proofs.Removals.LeavingUnits.{next-to}
use Rattle.corner_leaving.proofs.leaving.do_others_fit.Goals as goal
use Rattle.corner_leaving.proofs.leaving.do_others_fit.Goals.{then-level_at-draft+then-id+else-not-does_line_fit, else-level_at-draft, else-level_at-draft-via-then-level_at-draft+else-id, else-level_at-draft-via-else-level_at-draft}

pub line_slot-line-requires-clause-row : goal.line_slot-line-requires-clause-row
line_slot-line-requires-clause-row c =
    let lt : c.loop-row.row-index < length c.args.table.now.rows.items = search rules in
    let e : slice_index_or c.args.table.now.rows.items c.loop-row.row-index c.row-item.result ≡ c.row-item.result = search rules in
    subst (λ (n : ℕ). IsNamed (problem_of (lists_of c.args.table.now)) (Held n)) (sym c.id-then-id.ensures) (row_named (problem_of (lists_of c.args.table.now)) c.loop-row.row-index c.row-item.result lt e)

pub does_line_fit-requires-clause-counted : goal.does_line_fit-requires-clause-counted
does_line_fit-requires-clause-counted c =
    let lt : c.loop-row.row-index < length c.args.table.now.rows.items = search rules in
    let e : slice_index_or c.args.table.now.rows.items c.loop-row.row-index c.row-item.result ≡ c.row-item.result = search rules in
    subst (λ (w : ℕ). IsCounted (slot_at (lists_of c.args.table.now) w) c.args.draft.unit) (sym c.line_slot-line.ensures.value)
    (counted_named (lists_of c.args.table.now) (Held c.id-then-id.result) c.args.draft.unit c.requires.kept.slots c.requires.kept.whole c.requires.unit c.requires.unit_fits
    (subst (λ (n : ℕ). IsNamed (problem_of (lists_of c.args.table.now)) (Held n)) (sym c.id-then-id.ensures) (row_named (problem_of (lists_of c.args.table.now)) c.loop-row.row-index c.row-item.result lt e)))

pub loop-row-preserved : goal.loop-row-preserved
loop-row-preserved c =
    let lt : c.loop-row.row-index < length c.as_slice-row-items.result.now = search rules in
    let e : slice_index_or c.as_slice-row-items.result.now c.loop-row.row-index c.row-item.result ≡ c.row-item.result = search rules in
    next-to (FitsOther (lists_of c.args.table.now) c.args.draft c.args.new.now c.args.id) c.as_slice-row-items.result.now c.loop-row.row-index c.row-item.result lt e c.loop-row.invariant
    (elim c.if-level_at-draft.branch [
      | then-level_at-draft+then-id+else-not-does_line_fit w ↦
          let fits : IsFittingLine (lists_of c.args.table.now) c.args.draft c.args.new.now (line_slot (lists_of c.args.table.now) (Held c.row-item.result.id)) = search rules in
          (λ level other. fits)
      | else-level_at-draft w ↦
          (λ level other. elim w.else-level_at-draft.branch [
            | else-level_at-draft-via-then-level_at-draft+else-id v ↦ (let own : c.row-item.result.id ≡ c.args.id = search rules in absurd (other own))
            | else-level_at-draft-via-else-level_at-draft v ↦ (let ne : 1000 - c.row-item.result.rank ≢ c.args.draft.level = search rules in absurd (ne level))
          ])
    ])
