use Rattle.std.proofs.Common.{inl}
use Rattle.cert_core.specs.declared.stops.RunStop.TheVariants.{OutOfMemory}
use Rattle.corner_table.specs.Tables.{lists_of}
use Rattle.corner_joins.specs.Additions.CostJoins.{IsLineCostStop}
use Rattle.corner_joins.proofs.Costs.CostFound.{passed_on}
use Rattle.corner_joins.proofs.Costs.CostEnds.{cost_joined_kept, line_stop, row_listed, same_slots}
use Rattle.corner_joins.proofs.joining.join_next.Goals as goal

pub list_row-requires-clause-slots : goal.list_row-requires-clause-slots
list_row-requires-clause-slots c = (cost_joined_kept (lists_of c.args.table.now) (lists_of c.join_cost.new.table) c.requires.joins.row c.args.line c.requires.joins.kept c.requires.joins.is c.in-Ok-true.ensures.joined).slots

pub list_row-requires-clause-stored : goal.list_row-requires-clause-stored
list_row-requires-clause-stored c = (cost_joined_kept (lists_of c.args.table.now) (lists_of c.join_cost.new.table) c.requires.joins.row c.args.line c.requires.joins.kept c.requires.joins.is c.in-Ok-true.ensures.joined).stored

pub returns-in_err-list_row-in-Ok-true-clause-stop : goal.returns-in_err-list_row-in-Ok-true-clause-stop
returns-in_err-list_row-in-Ok-true-clause-stop c = passed_on c.from_residual.result OutOfMemory (IsLineCostStop (lists_of c.args.table.now) c.args.line) c.from_residual.ensures.1 tt

pub added_stop-requires : goal.added_stop-requires
added_stop-requires c = record { slots = same_slots (lists_of c.args.table.now) (lists_of c.join_cost.new.table) c.in-Err.stop c.requires.joins.kept.slots c.in-Err.ensures.same }

pub returns-in_ok-list_row-in-Ok-true-clause-listed : goal.returns-in_ok-list_row-in-Ok-true-clause-listed
returns-in_ok-list_row-in-Ok-true-clause-listed c = row_listed (lists_of c.join_cost.new.table) c.args.line c.args.listed.now c.list_row.new.listed c.in_ok-list_row-in-Ok-true.ensures

pub returns-in-Err-clause-stop : goal.returns-in-Err-clause-stop
returns-in-Err-clause-stop c = line_stop (lists_of c.args.table.now) (lists_of c.join_cost.new.table) c.args.line c.in-Err.stop c.added_stop.result c.in-Err.ensures.stop c.in-Err.ensures.same c.added_stop.ensures

pub returns-in-Ok-false-clause-listed : goal.returns-in-Ok-false-clause-listed
returns-in-Ok-false-clause-listed c = record { keeps = λ k has. has; listed = inl (c.in-Ok-false.ensures.costs c.in-Ok-false.field-0-test); others = λ k has. inl has }
