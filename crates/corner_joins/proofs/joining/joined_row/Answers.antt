use Rattle.std.proofs.Common.{[], ◌∷◌, SFits, w64, ◌≡◌, ◌<◌, ◌<ℤ◌, pos, sym, subst}
use Rattle.std.proofs.lemmas.Int.{to_z-of_z}
use Rattle.row_core.specs.Rows.{coefficient}
use Rattle.corner_table.specs.declared.table.TheConstants.{LEVELS}
use Rattle.corner_table.specs.declared.table.Slot.{Slot}
use Rattle.corner_table.specs.Tables.{lists_of, priority_at, row_at}
use Rattle.corner_joins.proofs.Costs.CostTerms.{IsCostRow}
use Rattle.row_core.specs.Rows.{IsKeptRow}
use Rattle.corner_joins.specs.Additions.CostJoins.{IsCostStop, IsInUnit, IsJoinedRow, IsUnitStop, home_at}
use Rattle.corner_joins.proofs.Costs.CostFound.{found, found_below, found_level, found_old, found_own, found_row, found_share_stop, found_size, found_unit_stop, passed_on}
use Rattle.corner_joins.proofs.joining.joined_row.Goals as goal
use Rattle.frac_core.proofs.Fitting.{fits-word as fitting_sfits}
use Rattle.frac_core.proofs.Lists.{ok-both as ok_both}
use Rattle.frac_core.proofs.Results.{err_implies as err_all}

pub cost_row-requires-clause-level : goal.cost_row-requires-clause-level
cost_row-requires-clause-level c =
    subst (λ (slot : Slot). slot.home < LEVELS) (sym c.slot_at-l.ensures) (found_below (lists_of c.args.table.now) c.args.line c.args.rise (found (lists_of c.args.table.now) c.requires.joins.row c.args.line c.args.rise c.requires.joins.kept c.requires.joins.is c.requires.rise))

old : (c : goal.After-struct_told-1) → IsCostRow (lists_of c.args.table.now) (home_at (lists_of c.args.table.now) c.args.line) c.in_ok-old.old
old c =
    found_old (lists_of c.args.table.now) c.args.line c.args.rise c.in_ok-old.old (found (lists_of c.args.table.now) c.requires.joins.row c.args.line c.args.rise c.requires.joins.kept c.requires.joins.is c.requires.rise)
    (subst (λ (slot : Slot). (priority_at (lists_of c.args.table.now) slot.home).rows ≡ 0 → c.in_ok-old.old ≡ record { col = slot.home; by = pos 1 } ∷ []) c.slot_at-l.ensures c.in_ok-old.ensures.none)
    (subst (λ (slot : Slot). ((priority_at (lists_of c.args.table.now) slot.home).rows ≡ 0 → ⊥) → c.in_ok-old.old ≡ row_at (lists_of c.args.table.now) slot.home) c.slot_at-l.ensures c.in_ok-old.ensures.some)

pub with_share-requires-clause-level : goal.with_share-requires-clause-level
with_share-requires-clause-level c = found_level (lists_of c.args.table.now) c.args.line c.args.rise c.in_ok-old.old (found (lists_of c.args.table.now) c.requires.joins.row c.args.line c.args.rise c.requires.joins.kept c.requires.joins.is c.requires.rise) (old c)

pub with_share-requires-clause-own : goal.with_share-requires-clause-own
with_share-requires-clause-own c = found_size (lists_of c.args.table.now) c.args.line c.args.rise (found (lists_of c.args.table.now) c.requires.joins.row c.args.line c.args.rise c.requires.joins.kept c.requires.joins.is c.requires.rise)

pub returns-in_err-row-clause-err : goal.returns-in_err-row-clause-err
returns-in_err-row-clause-err c =
    let n : SFits w64 c.args.count = c.ranges.count in
    let t : SFits w64 c.args.rise.times = fitting_sfits c.args.rise.times c.requires.rise.times_fits in
    passed_on c.from_residual-in_err-row.result c.in_err-row.field-0.0 (IsCostStop (lists_of c.args.table.now) c.args.line c.args.stop) c.from_residual-in_err-row.ensures.1
    (found_share_stop (lists_of c.args.table.now) c.args.line c.args.rise c.args.count c.in_ok-old.old c.args.stop c.in_err-row.field-0.0 (found (lists_of c.args.table.now) c.requires.joins.row c.args.line c.args.rise c.requires.joins.kept c.requires.joins.is c.requires.rise)
    (found_old (lists_of c.args.table.now) c.args.line c.args.rise c.in_ok-old.old (found (lists_of c.args.table.now) c.requires.joins.row c.args.line c.args.rise c.requires.joins.kept c.requires.joins.is c.requires.rise)
    (subst (λ (slot : Slot). (priority_at (lists_of c.args.table.now) slot.home).rows ≡ 0 → c.in_ok-old.old ≡ record { col = slot.home; by = pos 1 } ∷ []) c.slot_at-l.ensures c.in_ok-old.ensures.none)
    (subst (λ (slot : Slot). ((priority_at (lists_of c.args.table.now) slot.home).rows ≡ 0 → ⊥) → c.in_ok-old.old ≡ row_at (lists_of c.args.table.now) slot.home) c.slot_at-l.ensures c.in_ok-old.ensures.some)) c.requires.count (simp to_z-of_z at c.in_err-row.ensures.err))

pub in_unit-requires-clause-own : goal.in_unit-requires-clause-own
in_unit-requires-clause-own c =
    let n : SFits w64 c.args.count = c.ranges.count in
    let t : SFits w64 c.args.rise.times = fitting_sfits c.args.rise.times c.requires.rise.times_fits in
    subst (λ (slot : Slot). pos 0 <ℤ coefficient slot.home c.in_ok-row.row) (sym c.slot_at-l.ensures)
    (found_own (lists_of c.args.table.now) c.args.line c.args.rise c.args.count c.in_ok-old.old c.in_ok-row.row (found (lists_of c.args.table.now) c.requires.joins.row c.args.line c.args.rise c.requires.joins.kept c.requires.joins.is c.requires.rise)
    (found_old (lists_of c.args.table.now) c.args.line c.args.rise c.in_ok-old.old (found (lists_of c.args.table.now) c.requires.joins.row c.args.line c.args.rise c.requires.joins.kept c.requires.joins.is c.requires.rise)
    (subst (λ (slot : Slot). (priority_at (lists_of c.args.table.now) slot.home).rows ≡ 0 → c.in_ok-old.old ≡ record { col = slot.home; by = pos 1 } ∷ []) c.slot_at-l.ensures c.in_ok-old.ensures.none)
    (subst (λ (slot : Slot). ((priority_at (lists_of c.args.table.now) slot.home).rows ≡ 0 → ⊥) → c.in_ok-old.old ≡ row_at (lists_of c.args.table.now) slot.home) c.slot_at-l.ensures c.in_ok-old.ensures.some)) (simp to_z-of_z at c.in_ok-row.ensures.ok))

pub returns-clause-ok : goal.returns-clause-ok
returns-clause-ok c =
    let n : SFits w64 c.args.count = c.ranges.count in
    let t : SFits w64 c.args.rise.times = fitting_sfits c.args.rise.times c.requires.rise.times_fits in
    ok_both c.in_unit.result (IsInUnit c.in_ok-row.row c.slot_at-l.result.home c.args.rise.times) IsKeptRow (IsJoinedRow (lists_of c.args.table.now) c.args.line c.args.rise.unit)
    (λ new made kept. found_row (lists_of c.args.table.now) c.args.line c.args.rise c.args.count c.in_ok-old.old c.in_ok-row.row new (found (lists_of c.args.table.now) c.requires.joins.row c.args.line c.args.rise c.requires.joins.kept c.requires.joins.is c.requires.rise)
    (found_old (lists_of c.args.table.now) c.args.line c.args.rise c.in_ok-old.old (found (lists_of c.args.table.now) c.requires.joins.row c.args.line c.args.rise c.requires.joins.kept c.requires.joins.is c.requires.rise)
    (subst (λ (slot : Slot). (priority_at (lists_of c.args.table.now) slot.home).rows ≡ 0 → c.in_ok-old.old ≡ record { col = slot.home; by = pos 1 } ∷ []) c.slot_at-l.ensures c.in_ok-old.ensures.none)
    (subst (λ (slot : Slot). ((priority_at (lists_of c.args.table.now) slot.home).rows ≡ 0 → ⊥) → c.in_ok-old.old ≡ row_at (lists_of c.args.table.now) slot.home) c.slot_at-l.ensures c.in_ok-old.ensures.some)) c.requires.count (simp to_z-of_z at c.in_ok-row.ensures.ok) (subst (λ (slot : Slot). IsInUnit c.in_ok-row.row slot.home c.args.rise.times new) c.slot_at-l.ensures made) kept)
    (simp to_z-of_z at c.in_unit.ensures.ok) c.in_unit.ensures.kept

pub returns-clause-err : goal.returns-clause-err
returns-clause-err c =
    let n : SFits w64 c.args.count = c.ranges.count in
    let t : SFits w64 c.args.rise.times = fitting_sfits c.args.rise.times c.requires.rise.times_fits in
    err_all c.in_unit.result (IsUnitStop c.in_ok-row.row c.slot_at-l.result.home c.args.rise.times c.args.stop) (IsCostStop (lists_of c.args.table.now) c.args.line c.args.stop)
    (λ e h. found_unit_stop (lists_of c.args.table.now) c.args.line c.args.rise c.args.count c.in_ok-old.old c.in_ok-row.row c.args.stop e (found (lists_of c.args.table.now) c.requires.joins.row c.args.line c.args.rise c.requires.joins.kept c.requires.joins.is c.requires.rise)
    (found_old (lists_of c.args.table.now) c.args.line c.args.rise c.in_ok-old.old (found (lists_of c.args.table.now) c.requires.joins.row c.args.line c.args.rise c.requires.joins.kept c.requires.joins.is c.requires.rise)
    (subst (λ (slot : Slot). (priority_at (lists_of c.args.table.now) slot.home).rows ≡ 0 → c.in_ok-old.old ≡ record { col = slot.home; by = pos 1 } ∷ []) c.slot_at-l.ensures c.in_ok-old.ensures.none)
    (subst (λ (slot : Slot). ((priority_at (lists_of c.args.table.now) slot.home).rows ≡ 0 → ⊥) → c.in_ok-old.old ≡ row_at (lists_of c.args.table.now) slot.home) c.slot_at-l.ensures c.in_ok-old.ensures.some)) c.requires.count (simp to_z-of_z at c.in_ok-row.ensures.ok) (subst (λ (slot : Slot). IsUnitStop c.in_ok-row.row slot.home c.args.rise.times c.args.stop e) c.slot_at-l.ensures h))
    (simp to_z-of_z at c.in_unit.ensures.err)
