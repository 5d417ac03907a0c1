use Rattle.std.proofs.Common.{rules, SFits, w64, ◌<◌, ◌<ℤ◌, inr, pos, sym, subst, refl}
use Rattle.std.proofs.lemmas.Int.{to_z-of_z}
use Rattle.corner_table.specs.declared.table.TheConstants.{LEVELS}
use Rattle.corner_table.specs.declared.table.Slot.{Slot}
use Rattle.corner_table.specs.declared.table.Priority.{Priority}
use Rattle.corner_table.specs.Tables.{lists_of, priority_at}
use Rattle.corner_table.specs.Reads.LevelNumbers.{IsCounted}
use Rattle.corner_joins.specs.Additions.CostJoins.{IsUnfitRise}
use Rattle.corner_joins.proofs.Costs.CostEnds.{joining_below, joining_counted, joining_unit, rise_stop}
use Rattle.corner_joins.proofs.joining.rise_at.Goals as goal

pub priority_at-requires-clause-level : goal.priority_at-requires-clause-level
priority_at-requires-clause-level c = subst (λ (slot : Slot). slot.home < LEVELS) (sym c.slot_at-slot.ensures) (joining_below (lists_of c.args.table.now) c.requires.joins.row c.args.line c.requires.joins.kept c.requires.joins.is)

pub risen-requires-clause-counted : goal.risen-requires-clause-counted
risen-requires-clause-counted c =
    let u : SFits w64 c.priority_at.result.unit = search rules in
    simp to_z-of_z
    (subst (λ (p : Priority). IsCounted c.slot_at-slot.result p.unit) (sym c.priority_at.ensures)
    (subst (λ (slot : Slot). IsCounted slot (priority_at (lists_of c.args.table.now) slot.home).unit) (sym c.slot_at-slot.ensures) (joining_counted (lists_of c.args.table.now) c.requires.joins.row c.args.line c.requires.joins.kept c.requires.joins.is)))

pub risen-requires-clause-above : goal.risen-requires-clause-above
risen-requires-clause-above c =
    let u : SFits w64 c.priority_at.result.unit = search rules in
    simp to_z-of_z
    (subst (λ (p : Priority). pos 0 <ℤ p.unit) (sym c.priority_at.ensures)
    (subst (λ (slot : Slot). pos 0 <ℤ (priority_at (lists_of c.args.table.now) slot.home).unit) (sym c.slot_at-slot.ensures) (joining_unit (lists_of c.args.table.now) c.requires.joins.row c.args.line c.requires.joins.kept c.requires.joins.is)))

pub returns-in-None-clause-err : goal.returns-in-None-clause-err
returns-in-None-clause-err c =
    let u : SFits w64 c.priority_at.result.unit = search rules in
    inr (
      refl,
      rise_stop (lists_of c.args.table.now) c.requires.joins.row c.args.line c.requires.joins.kept c.requires.joins.is
          (subst (λ (slot : Slot). IsUnfitRise slot (priority_at (lists_of c.args.table.now) slot.home).unit) c.slot_at-slot.ensures
          (subst (λ (p : Priority). IsUnfitRise c.slot_at-slot.result p.unit) c.priority_at.ensures (simp to_z-of_z at c.in-None.ensures.none))),
    )
