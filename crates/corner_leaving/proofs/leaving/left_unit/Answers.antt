use Rattle.std.proofs.Common.{rules, SFits, w64, ◌≡◌, ◌<ℤ◌, pos, sym, subst}
use Rattle.std.proofs.lemmas.Int.{to_z-of_z}
use Rattle.corner_table.specs.declared.table.Priority.{Priority}
use Rattle.corner_table.specs.declared.table.Slot.{Slot}
use Rattle.corner_table.specs.Tables.{lists_of}
use Rattle.corner_leaving.specs.Leaving.{IsLeftUnit}
use Rattle.corner_leaving.proofs.Removals.LeavingUnits.{unit_stays}
use Rattle.corner_leaving.proofs.Removals.LeavingEnds.{free_share, its_scale_above}
use Rattle.corner_leaving.proofs.leaving.left_unit.Goals as goal

pub common_divisor-divisor-requires : goal.common_divisor-divisor-requires
common_divisor-divisor-requires c =
    let s : SFits w64 c.slot_at-slot.result.scale = search rules in
    simp to_z-of_z (subst (λ (slot : Slot). pos 0 <ℤ slot.scale) (sym c.slot_at-slot.ensures) (its_scale_above (lists_of c.args.table.now) c.requires.leaver.0 c.args.leaver (record { kept = c.requires.kept; is = c.requires.leaver.1 })))

pub returns-then-divisor-slot : goal.returns-then-divisor-slot
returns-then-divisor-slot c =
    let s : SFits w64 c.slot_at-slot.result.scale = search rules in
    let w : SFits w64 c.slot_at-slot.result.weight = search rules in
    let d : SFits w64 c.common_divisor-divisor.result = search rules in
    let u : SFits w64 c.priority_at.result.unit = search rules in
    let same : c.common_divisor-divisor.result ≡ c.slot_at-slot.result.scale = search rules in
    simp to_z-of_z
    (subst (λ (p : Priority). IsLeftUnit (lists_of c.args.table.now) c.args.leaver p.unit) (sym c.priority_at.ensures)
    (unit_stays (lists_of c.args.table.now) c.requires.leaver.0 c.args.leaver (record { kept = c.requires.kept; is = c.requires.leaver.1 })
    (free_share (lists_of c.args.table.now) c.requires.leaver.0 c.args.leaver c.slot_at-slot.result c.common_divisor-divisor.result (record { kept = c.requires.kept; is = c.requires.leaver.1 }) c.slot_at-slot.ensures same (simp to_z-of_z at c.common_divisor-divisor.ensures.divisor))))
