use Rattle.std.proofs.Common.{SFits, w64, ◌∙◌, ℕ, sym, ap, subst}
use Rattle.std.proofs.lemmas.Int.{to_z-of_z}
use Rattle.problem_core.specs.declared.parts.RowName.TheVariants.{Held}
use Rattle.corner_table.specs.declared.table.Slot.{Slot}
use Rattle.corner_table.specs.Tables.{line_slot, lists_of, problem_of, slot_at}
use Rattle.corner_view.specs.Seen.{IsNamed}
use Rattle.corner_joins.specs.Additions.CostJoins.{IsUnfitRise}
use Rattle.corner_table.specs.Reads.LevelNumbers.{IsCounted}
use Rattle.corner_leaving.proofs.Removals.LeavingEnds.{more_never, row_counted, row_name}
use Rattle.corner_leaving.proofs.leaving.more_unit.Goals as goal

pub line_slot-requires-clause-row : goal.line_slot-requires-clause-row
line_slot-requires-clause-row c = subst (λ (n : ℕ). IsNamed (problem_of (lists_of c.args.table.now)) (Held n)) (sym c.id.ensures) (row_name (lists_of c.args.table.now) c.args.row.now c.requires.held)

pub risen-requires-clause-counted : goal.risen-requires-clause-counted
risen-requires-clause-counted c =
    let u : SFits w64 c.args.unit = c.ranges.unit in
    simp to_z-of_z
    (subst (λ (slot : Slot). IsCounted slot c.args.unit) (sym (c.slot_at-slot.ensures ∙ ap (λ (w : ℕ). slot_at (lists_of c.args.table.now) w) (c.line_slot.ensures.value ∙ ap (λ (n : ℕ). line_slot (lists_of c.args.table.now) (Held n)) c.id.ensures)))
    (row_counted (lists_of c.args.table.now) c.args.row.now c.args.unit c.requires.kept c.requires.held c.requires.above c.requires.fits))

pub unreachable-requires : goal.unreachable-requires
unreachable-requires c =
    let u : SFits w64 c.args.unit = c.ranges.unit in
    let none : IsUnfitRise c.slot_at-slot.result c.args.unit = simp to_z-of_z at c.in-None.ensures.none in
    more_never (lists_of c.args.table.now) c.args.row.now c.args.unit c.requires.kept c.requires.held c.requires.room
    (subst (λ (slot : Slot). IsUnfitRise slot c.args.unit) (c.slot_at-slot.ensures ∙ ap (λ (w : ℕ). slot_at (lists_of c.args.table.now) w) (c.line_slot.ensures.value ∙ ap (λ (n : ℕ). line_slot (lists_of c.args.table.now) (Held n)) c.id.ensures)) none)
