use Rattle.std.proofs.Common.{SFits, w64, ◌<◌, ◌≤◌, ◌+◌, ◌-◌, ◌∙◌, ℕ, sym, ap, ap₂, subst, arith}
use Rattle.std.proofs.lemmas.Int.{to_z-of_z}
use Rattle.corner_table.specs.declared.table.TheConstants.{LEVELS}
use Rattle.corner_table.specs.declared.table.Slot.{Slot}
use Rattle.corner_table.specs.declared.table.Priority.{Priority}
use Rattle.corner_table.specs.Tables.{lists_of, priority_at}
use Rattle.corner_joins.specs.Additions.CostJoins.{IsJoinStop}
use Rattle.problem_core.specs.declared.parts.Level.TheVariants.{Priority as PriorityLevel}
use Rattle.problem_core.specs.declared.stops.Quantity.TheVariants.{Rows}
use Rattle.frac_core.specs.declared.memory.Stop.TheVariants.{Refused}
use Rattle.corner_joins.proofs.Costs.CostFound.{passed_on}
use Rattle.corner_joins.proofs.Costs.CostEnds.{joined_below, joined_kept, joining_below, joining_few, stop_is}
use Rattle.corner_joins.proofs.joining.join_cost.Goals as goal
use Rattle.frac_core.proofs.Fitting.{fits-word as fitting_sfits}

pub priority_at-requires-clause-level : goal.priority_at-requires-clause-level
priority_at-requires-clause-level c = subst (λ (slot : Slot). slot.home < LEVELS) (sym c.slot_at-slot.ensures) (joining_below (lists_of c.args.table.now) c.requires.joins.row c.args.line c.requires.joins.kept c.requires.joins.is)

pub overflow_add-priority_at : goal.overflow_add-priority_at
overflow_add-priority_at c =
    let few = subst (λ (p : Priority). p.rows + 1 ≤ 4096) (sym (c.priority_at.ensures ∙ ap (λ (slot : Slot). priority_at (lists_of c.args.table.now) slot.home) c.slot_at-slot.ensures)) (joining_few (lists_of c.args.table.now) c.requires.joins.row c.args.line c.requires.joins.kept c.requires.joins.is) in
    omega (arith, few)

pub rows_stop-stop-requires : goal.rows_stop-stop-requires
rows_stop-stop-requires c = let h = subst (λ (slot : Slot). slot.home < LEVELS) (sym c.slot_at-slot.ensures) (joining_below (lists_of c.args.table.now) c.requires.joins.row c.args.line c.requires.joins.kept c.requires.joins.is) in omega (arith, h)

pub returns-in_err-rise-clause-stop : goal.returns-in_err-rise-clause-stop
returns-in_err-rise-clause-stop c =
    passed_on c.from_residual.result c.in_err-rise.field-0.0 (IsJoinStop (lists_of c.args.table.now) c.args.line) c.from_residual.ensures.1
    (stop_is (lists_of c.args.table.now) c.args.line c.rows_stop-stop.result c.in_err-rise.field-0.0 c.requires.joins.kept (c.rows_stop-stop.ensures ∙ ap₂ (λ (slot : Slot) (n : ℕ). Refused (Rows (PriorityLevel (1000 - slot.home)) (n + 1))) c.slot_at-slot.ensures
    (ap (λ (p : Priority). p.rows) c.priority_at.ensures ∙ ap (λ (slot : Slot). (priority_at (lists_of c.args.table.now) slot.home).rows) c.slot_at-slot.ensures)) c.in_err-rise.ensures.err)

pub returns-in_err-change-clause-stop : goal.returns-in_err-change-clause-stop
returns-in_err-change-clause-stop c =
    passed_on c.from_residual-in_err-change.result c.in_err-change.field-0.0 (IsJoinStop (lists_of c.args.table.now) c.args.line) c.from_residual-in_err-change.ensures.1
    (stop_is (lists_of c.args.table.now) c.args.line c.rows_stop-stop.result c.in_err-change.field-0.0 c.requires.joins.kept (c.rows_stop-stop.ensures ∙ ap₂ (λ (slot : Slot) (n : ℕ). Refused (Rows (PriorityLevel (1000 - slot.home)) (n + 1))) c.slot_at-slot.ensures
    (ap (λ (p : Priority). p.rows) c.priority_at.ensures ∙ ap (λ (slot : Slot). (priority_at (lists_of c.args.table.now) slot.home).rows) c.slot_at-slot.ensures)) c.in_err-change.ensures.err)

pub put_cost-requires-clause-level : goal.put_cost-requires-clause-level
put_cost-requires-clause-level c = subst (λ (w : ℕ). w < LEVELS) (sym c.in_ok-change.ensures.ok.at_is) (joining_below (lists_of c.args.table.now) c.requires.joins.row c.args.line c.requires.joins.kept c.requires.joins.is)

pub put_cost-requires-clause-few : goal.put_cost-requires-clause-few
put_cost-requires-clause-few c = let few = subst (λ (w : ℕ). (priority_at (lists_of c.args.table.now) w).rows + 1 ≤ 4096) (sym c.in_ok-change.ensures.ok.at_is) (joining_few (lists_of c.args.table.now) c.requires.joins.row c.args.line c.requires.joins.kept c.requires.joins.is) in omega (arith, few)

pub put_cost-requires-clause-below : goal.put_cost-requires-clause-below
put_cost-requires-clause-below c = joined_below (lists_of c.args.table.now) c.args.line c.in_ok-rise.rise.unit c.in_ok-change.change c.requires.joins.kept (joining_below (lists_of c.args.table.now) c.requires.joins.row c.args.line c.requires.joins.kept c.requires.joins.is) c.in_ok-change.ensures.ok

pub costs_at-requires-clause-slots : goal.costs_at-requires-clause-slots
costs_at-requires-clause-slots c =
    let u : SFits w64 c.in_ok-rise.rise.unit = fitting_sfits c.in_ok-rise.rise.unit c.in_ok-rise.ensures.ok.fits in
    (joined_kept (lists_of c.args.table.now) (lists_of c.put_cost.new.table) c.requires.joins.row c.args.line c.in_ok-rise.rise.unit c.in_ok-change.change c.requires.joins.kept c.requires.joins.is c.in_ok-change.ensures.ok (simp to_z-of_z at c.in_ok-put_cost.ensures.ok)).0.slots
