use Rattle.std.proofs.Common.{rules, SFits, w64, ◌∙◌, ℤ, pos, sym, ap, subst}
use Rattle.std.proofs.lemmas.Int.{to_z-of_z}
use Rattle.frac_core.specs.Fraction.{IsFitting}
use Rattle.corner_table.specs.declared.table.Slot.{Slot}
use Rattle.corner_table.specs.Tables.{lists_of}
use Rattle.corner_table.specs.Reads.LevelNumbers.{IsCounted, count_of, unit_at}
use Rattle.corner_leaving.proofs.Removals.LeavingEnds.{count_fits, its_counted}
use Rattle.corner_leaving.proofs.leaving.leaving_count.Goals as goal

pub cost_share-requires-clause-counted : goal.cost_share-requires-clause-counted
cost_share-requires-clause-counted c =
    subst (λ (slot : Slot). IsCounted slot (unit_at (lists_of c.args.table.now) slot.home)) (sym c.slot_at.ensures)
    (its_counted (lists_of c.args.table.now) c.requires.leaver.0 c.args.leaver (record { kept = c.requires.kept; is = c.requires.leaver.1 }))

pub returns-clause-value : goal.returns-clause-value
returns-clause-value c =
    let r : SFits w64 c.cost_share.result = search rules in
    simp to_z-of_z (c.cost_share.ensures ∙ ap (λ (slot : Slot). pos (count_of (lists_of c.args.table.now) slot c.args.leaver.side)) c.slot_at.ensures)

pub returns-clause-fits : goal.returns-clause-fits
returns-clause-fits c =
    let r : SFits w64 c.cost_share.result = search rules in
    simp to_z-of_z
    (subst (λ (z : ℤ). IsFitting z) (sym (c.cost_share.ensures ∙ ap (λ (slot : Slot). pos (count_of (lists_of c.args.table.now) slot c.args.leaver.side)) c.slot_at.ensures))
    (count_fits (lists_of c.args.table.now) c.requires.leaver.0 c.args.leaver (record { kept = c.requires.kept; is = c.requires.leaver.1 })))
