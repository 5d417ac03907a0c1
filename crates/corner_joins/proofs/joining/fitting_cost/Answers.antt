use Rattle.std.proofs.Common.{SFits, w64, ◌<◌, ◌∙◌, inr, ◌+◌, ◌≤◌, ℕ, sym, ap, subst, refl, arith}
use Rattle.std.proofs.lemmas.Int.{to_z-of_z}
use Rattle.corner_writings.specs.declared.levels.fitting.Draft.{Draft}
use Rattle.corner_table.specs.declared.table.TheConstants.{LEVELS}
use Rattle.corner_table.specs.declared.table.Priority.{Priority}
use Rattle.corner_table.specs.Tables.{lists_of, priority_at}
use Rattle.corner_writings.specs.Fitting.{HasFittingRow, HasNoFittingRow}
use Rattle.corner_joins.specs.Additions.CostJoins.{home_at}
use Rattle.corner_joins.proofs.Costs.CostFound.{found, found_below}
use Rattle.corner_joins.proofs.Costs.CostFits.{draft_same, fitting_joined, found_count_small, unfit_joined}
use Rattle.corner_joins.proofs.joining.fitting_cost.Goals as goal

pub priority_at-requires-clause-level : goal.priority_at-requires-clause-level
priority_at-requires-clause-level c = subst (λ (w : ℕ). w < LEVELS) (sym c.requires.at) (found_below (lists_of c.args.table.now) c.args.line (record { unit = c.args.unit; times = c.requires.rise.0 }) (found (lists_of c.args.table.now) c.requires.joins.row c.args.line (record { unit = c.args.unit; times = c.requires.rise.0 }) c.requires.joins.kept c.requires.joins.is c.requires.rise.1))

pub does_level_fit-requires-clause-level : goal.does_level_fit-requires-clause-level
does_level_fit-requires-clause-level c = subst (λ (w : ℕ). w < LEVELS) (sym c.requires.at) (found_below (lists_of c.args.table.now) c.args.line (record { unit = c.args.unit; times = c.requires.rise.0 }) (found (lists_of c.args.table.now) c.requires.joins.row c.args.line (record { unit = c.args.unit; times = c.requires.rise.0 }) c.requires.joins.kept c.requires.joins.is c.requires.rise.1))

pub overflow_add-draft : goal.overflow_add-draft
overflow_add-draft c =
    let few = subst (λ (p : Priority). p.rows + 1 ≤ 4096) (sym (c.priority_at.ensures ∙ ap (priority_at (lists_of c.args.table.now)) c.requires.at)) (found_count_small (lists_of c.args.table.now) c.args.line (record { unit = c.args.unit; times = c.requires.rise.0 }) (found (lists_of c.args.table.now) c.requires.joins.row c.args.line (record { unit = c.args.unit; times = c.requires.rise.0 }) c.requires.joins.kept c.requires.joins.is c.requires.rise.1)) in
    omega (arith, few)

pub returns-then-does_level_fit-clause-ok : goal.returns-then-does_level_fit-clause-ok
returns-then-does_level_fit-clause-ok c =
    let u : SFits w64 c.args.unit = c.ranges.unit in
    fitting_joined (lists_of c.args.table.now) c.args.line (record { unit = c.args.unit; times = c.requires.rise.0 }) (record { at = c.args.change.at; row = c.args.change.row; value = c.args.change.value }) (found (lists_of c.args.table.now) c.requires.joins.row c.args.line (record { unit = c.args.unit; times = c.requires.rise.0 }) c.requires.joins.kept c.requires.joins.is c.requires.rise.1)
    c.requires.at c.requires.row c.requires.row_kept c.requires.cost c.requires.value_kept
    (subst (λ (draft : Draft). HasFittingRow (lists_of c.args.table.now) draft c.args.change.row)
    (draft_same (lists_of c.args.table.now) c.args.line c.args.change.at (home_at (lists_of c.args.table.now) c.args.line) (c.priority_at.result.rows + 1) c.args.unit c.side_in.result (found (lists_of c.args.table.now) c.requires.joins.row c.args.line (record { unit = c.args.unit; times = c.requires.rise.0 }) c.requires.joins.kept c.requires.joins.is c.requires.rise.1).side c.requires.at
    (c.side_in.ensures (found (lists_of c.args.table.now) c.requires.joins.row c.args.line (record { unit = c.args.unit; times = c.requires.rise.0 }) c.requires.joins.kept c.requires.joins.is c.requires.rise.1).side (found (lists_of c.args.table.now) c.requires.joins.row c.args.line (record { unit = c.args.unit; times = c.requires.rise.0 }) c.requires.joins.kept c.requires.joins.is c.requires.rise.1).join.next.side_is) (ap (λ (p : Priority). p.rows + 1) (c.priority_at.ensures ∙ ap (priority_at (lists_of c.args.table.now)) c.requires.at)))
    ((simp to_z-of_z at c.does_level_fit.ensures.fits) c.if-does_level_fit.true))

pub returns-else-does_level_fit-clause-err : goal.returns-else-does_level_fit-clause-err
returns-else-does_level_fit-clause-err c =
    let u : SFits w64 c.args.unit = c.ranges.unit in
    inr (
      refl,
      unfit_joined (lists_of c.args.table.now) c.args.line (record { unit = c.args.unit; times = c.requires.rise.0 }) c.args.change.row (found (lists_of c.args.table.now) c.requires.joins.row c.args.line (record { unit = c.args.unit; times = c.requires.rise.0 }) c.requires.joins.kept c.requires.joins.is c.requires.rise.1) c.requires.row
          (subst (λ (draft : Draft). HasNoFittingRow (lists_of c.args.table.now) draft c.args.change.row)
          (draft_same (lists_of c.args.table.now) c.args.line c.args.change.at (home_at (lists_of c.args.table.now) c.args.line) (c.priority_at.result.rows + 1) c.args.unit c.side_in.result (found (lists_of c.args.table.now) c.requires.joins.row c.args.line (record { unit = c.args.unit; times = c.requires.rise.0 }) c.requires.joins.kept c.requires.joins.is c.requires.rise.1).side c.requires.at
          (c.side_in.ensures (found (lists_of c.args.table.now) c.requires.joins.row c.args.line (record { unit = c.args.unit; times = c.requires.rise.0 }) c.requires.joins.kept c.requires.joins.is c.requires.rise.1).side (found (lists_of c.args.table.now) c.requires.joins.row c.args.line (record { unit = c.args.unit; times = c.requires.rise.0 }) c.requires.joins.kept c.requires.joins.is c.requires.rise.1).join.next.side_is) (ap (λ (p : Priority). p.rows + 1) (c.priority_at.ensures ∙ ap (priority_at (lists_of c.args.table.now)) c.requires.at)))
          ((simp to_z-of_z at c.does_level_fit.ensures.unfit) c.if-does_level_fit.false)),
    )
