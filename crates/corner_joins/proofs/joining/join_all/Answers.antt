use Rattle.std.proofs.lemmas.Result.{on_ok_weaker}
use Rattle.corner_view.specs.AddStops.{IsAddStop}
use Rattle.corner_table.specs.Invariants.{seen_of}
use Rattle.corner_table.specs.Tables.{lists_of}
use Rattle.corner_joins.proofs.Additions.PartFacts.{kept_part}
use Rattle.corner_joins.proofs.Additions.AddedRows.{costs_add_stop, pushed_to_join}
use Rattle.corner_joins.proofs.Additions.AllFit.{all_sums_fit}
use Rattle.corner_joins.proofs.Additions.SlotsLeft.{joined_left}
use Rattle.corner_joins.proofs.joining.join_all.Goals as goal
use Rattle.frac_core.proofs.Results.{err_implies as err_all}

pub push_rows-requires-clause-kept : goal.push_rows-requires-clause-kept
push_rows-requires-clause-kept c = kept_part (lists_of c.args.table.now) c.requires.kept

pub join_costs-requires-clause-rows : goal.join_costs-requires-clause-rows
join_costs-requires-clause-rows c = (c.args.table.now.rows.items, pushed_to_join (lists_of c.args.table.now) (lists_of c.push_rows.new.table) c.args.rows.now c.requires.kept c.in_ok-push_rows.ensures.lists c.in_ok-push_rows.ensures.begins)

pub returns-clause-stop : goal.returns-clause-stop
returns-clause-stop c =
    err_all c.join_costs.result _ (IsAddStop (seen_of (lists_of c.args.table.now)) c.args.rows.now)
    (λ stop h. costs_add_stop (lists_of c.args.table.now) (lists_of c.push_rows.new.table) c.args.rows.now stop c.in_ok-push_rows.ensures.lists c.in_ok-push_rows.ensures.begins c.in_ok-push_rows.ensures.kept c.in_ok-push_rows.ensures.values
    (h c.args.table.now.rows.items (pushed_to_join (lists_of c.args.table.now) (lists_of c.push_rows.new.table) c.args.rows.now c.requires.kept c.in_ok-push_rows.ensures.lists c.in_ok-push_rows.ensures.begins)))
    c.join_costs.ensures.stop

pub returns-clause-fits : goal.returns-clause-fits
returns-clause-fits c =
    on_ok_weaker c.join_costs.result
    (λ costs. all_sums_fit (lists_of c.args.table.now) (lists_of c.push_rows.new.table) c.args.rows.now
    (record {
      whole = c.requires.whole;
      before = c.requires.kept.corner;
      pushed = c.in_ok-push_rows.ensures.lists;
      begins = c.in_ok-push_rows.ensures.begins;
      kept = c.in_ok-push_rows.ensures.kept;
      terms = c.in_ok-push_rows.ensures.fits;
      costs = costs c.args.table.now.rows.items (pushed_to_join (lists_of c.args.table.now) (lists_of c.push_rows.new.table) c.args.rows.now c.requires.kept c.in_ok-push_rows.ensures.lists c.in_ok-push_rows.ensures.begins);
    }))
    c.join_costs.ensures.fits

pub returns-clause-left : goal.returns-clause-left
returns-clause-left c =
    on_ok_weaker c.join_costs.result
    (λ joined. joined_left (lists_of c.push_rows.new.table) (lists_of c.join_costs.new.table) c.args.rows.now c.args.listed.now c.join_costs.new.listed c.in_ok-push_rows.ensures.left joined)
    c.join_costs.ensures.joined
