use Rattle.std.proofs.Common.{rules, SFits, w64, ◌≡◌, true, false, ℕ, ap, subst, unsigned_abs, refl}
use Rattle.std.proofs.lemmas.Int.{to_z-of_z}
use Rattle.corner_table.specs.Tables.{lists_of}
use Rattle.corner_leaving.specs.Leaving.{IsLeftRow, IsLeftStop}
use Rattle.corner_joins.proofs.Costs.CostFound.{passed_on}
use Rattle.corner_leaving.proofs.Removals.LeavingCosts.{some_left, unfit_stop}
use Rattle.corner_leaving.proofs.Removals.LeavingEnds.{left_unit_above, left_unit_fits}
use Rattle.corner_leaving.proofs.leaving.rest_level.Goals as goal

pub does_left_fit-requires-clause-unit : goal.does_left_fit-requires-clause-unit
does_left_fit-requires-clause-unit c =
    let u : SFits w64 c.left_unit-unit.result = search rules in
    simp to_z-of_z (left_unit_above (lists_of c.args.table.now) c.args.leaver c.left_unit-unit.result c.left_unit-unit.ensures)

pub does_left_fit-requires-clause-unit_fits : goal.does_left_fit-requires-clause-unit_fits
does_left_fit-requires-clause-unit_fits c =
    let u : SFits w64 c.left_unit-unit.result = search rules in
    simp to_z-of_z (left_unit_fits (lists_of c.args.table.now) c.requires.leaver.0 c.args.leaver c.left_unit-unit.result (record { kept = c.requires.kept; is = c.requires.leaver.1 }) c.left_unit-unit.ensures)

pub returns-then-not-does_left_fit-clause-err : goal.returns-then-not-does_left_fit-clause-err
returns-then-not-does_left_fit-clause-err c =
    let u : SFits w64 c.left_unit-unit.result = search rules in
    let unit = c.left_unit-unit.ensures in
    let no : c.does_left_fit.result ≡ false = search rules in
    unfit_stop (lists_of c.args.table.now) c.requires.leaver.0 c.args.leaver c.left_unit-unit.result unit.size c.in_ok-row.row c.args.stop (record { kept = c.requires.kept; is = c.requires.leaver.1 }) unit.unit_is unit.least
    (subst (λ (n : ℕ). IsLeftRow (lists_of c.args.table.now) c.args.leaver n c.in_ok-row.row) (ap unsigned_abs unit.unit_is) (simp to_z-of_z at c.in_ok-row.ensures.ok)) ((simp to_z-of_z at c.does_left_fit.ensures.unfit) no)

pub returns-clause-ok : goal.returns-clause-ok
returns-clause-ok c =
    let u : SFits w64 c.left_unit-unit.result = search rules in
    let unit = c.left_unit-unit.ensures in
    let yes : c.does_left_fit.result ≡ true = search rules in
    simp to_z-of_z
    (some_left (lists_of c.args.table.now) c.requires.leaver.0 c.args.leaver (record { change = record { at = c.args.leaver.level; row = c.in_ok-row.row; value = c.in_ok-value.value }; unit = c.left_unit-unit.result; rows = c.args.rows }) unit.size (record { kept = c.requires.kept; is = c.requires.leaver.1 }) refl unit.unit_is unit.least
    (subst (λ (n : ℕ). IsLeftRow (lists_of c.args.table.now) c.args.leaver n c.in_ok-row.row) (ap unsigned_abs unit.unit_is) (simp to_z-of_z at c.in_ok-row.ensures.ok)) c.in_ok-row.ensures.kept c.in_ok-value.ensures.ok c.in_ok-value.ensures.kept
    ((simp to_z-of_z at c.does_left_fit.ensures.fits) yes) c.requires.rows c.requires.some)

pub returns-in_err-row-clause-err : goal.returns-in_err-row-clause-err
returns-in_err-row-clause-err c = passed_on c.from_residual.result c.in_err-row.field-0.0 (IsLeftStop (lists_of c.args.table.now) c.args.leaver c.args.stop) c.from_residual.ensures.1 c.in_err-row.ensures.err

pub returns-in_err-value-clause-err : goal.returns-in_err-value-clause-err
returns-in_err-value-clause-err c = passed_on c.from_residual-in_err-value.result c.in_err-value.field-0.0 (IsLeftStop (lists_of c.args.table.now) c.args.leaver c.args.stop) c.from_residual-in_err-value.ensures.1 c.in_err-value.ensures.err
