use Rattle.std.proofs.Common.{rules, SFits, w64, ◌<ℤ◌, pos, ap, sym, subst}
use Rattle.std.proofs.lemmas.Int.{to_z-of_z}
use Rattle.corner_table.specs.declared.table.Priority.{Priority}
use Rattle.corner_table.specs.Tables.{lists_of}
use Rattle.corner_leaving.proofs.Removals.LeavingRows.{its_level}
use Rattle.corner_leaving.proofs.Removals.LeavingEnds.{IsQuotient, left_unit_above, quotient_is, scale_room, unit_up}
use Rattle.corner_leaving.proofs.leaving.times_of.Goals as goal

pub priority_at-requires-clause-level : goal.priority_at-requires-clause-level
priority_at-requires-clause-level c = its_level (lists_of c.args.table.now) c.requires.leaver.0 c.args.leaver (record { kept = c.requires.kept; is = c.requires.leaver.1 })

pub over-requires-clause-a : goal.over-requires-clause-a
over-requires-clause-a c =
    let u : SFits w64 c.priority_at.result.unit = search rules in
    simp to_z-of_z (subst (λ (p : Priority). pos 0 <ℤ p.unit) (sym c.priority_at.ensures) (unit_up (lists_of c.args.table.now) c.requires.leaver.0 c.args.leaver (record { kept = c.requires.kept; is = c.requires.leaver.1 })))

pub over-requires-clause-divisor : goal.over-requires-clause-divisor
over-requires-clause-divisor c =
    let u : SFits w64 c.args.unit = c.ranges.unit in
    simp to_z-of_z (left_unit_above (lists_of c.args.table.now) c.args.leaver c.args.unit c.requires.unit)

quotient-of : (c : goal.After-over) → IsQuotient (lists_of c.args.table.now) c.args.leaver c.args.unit c.over.result
quotient-of c =
    let u : SFits w64 c.args.unit = c.ranges.unit in
    let o : SFits w64 c.priority_at.result.unit = search rules in
    quotient_is (lists_of c.args.table.now) c.requires.leaver.0 c.args.leaver c.priority_at.result.unit c.args.unit c.over.result (record { kept = c.requires.kept; is = c.requires.leaver.1 }) c.requires.unit
    (ap (λ (p : Priority). p.unit) c.priority_at.ensures) (simp to_z-of_z at c.over.ensures.value)

pub returns-clause-times : goal.returns-clause-times
returns-clause-times c =
    let r : SFits w64 c.over.result = search rules in
    let q = quotient-of c in
    (q.size, simp to_z-of_z q.is, q.above, q.whole)

pub returns-clause-fits : goal.returns-clause-fits
returns-clause-fits c =
    let r : SFits w64 c.over.result = search rules in
    simp to_z-of_z (scale_room (lists_of c.args.table.now) c.requires.leaver.0 c.args.leaver c.args.unit c.over.result (record { kept = c.requires.kept; is = c.requires.leaver.1 }) c.requires.unit (quotient-of c))
