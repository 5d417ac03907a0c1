use Rattle.std.proofs.Common.{◌+◌, List, drop, refl, subst, take, []}
use Rattle.problem_core.specs.Changes.Begins.{BeginsWith}
use Rattle.problem_core.specs.Layout.{Row}
use Rattle.corner_lines.proofs.ProblemChanges.JoinedBegins.{begins_none}
use Rattle.corner_table.specs.Paths.{IsPathStop}
use Rattle.corner_joins.specs.Additions.RowJoins.{ArePushed}
use Rattle.corner_table.specs.Tables.{lists_of, marks_at, problem_of}
use Rattle.corner_joins.proofs.Additions.RowPaths.{begins_one, none_pushed, one_pushed}
use Rattle.corner_joins.proofs.Additions.RowStops.{add_stop, loop_whole, next_rows, rest_rows, stopped, this_row, values_one}
use Rattle.corner_joins.proofs.Additions.RowFits.{all_rows_fit, next_rows_fit, no_rows_fit}
use Rattle.corner_joins.proofs.joining.push_rows.Goals as goal
use Rattle.corner_table.proofs.Corners.HistoryFacts.{same_again as history_trans}

pub loop-i-init : goal.loop-i-init
loop-i-init c = record {
  past = record { rows = refl; stays = refl; slots = refl; standings = refl; matrix = refl; attr_slots = refl; row_slots = refl; priorities = refl };
  lists = none_pushed (lists_of c.args.table.now);
  begins = begins_none (problem_of (lists_of c.args.table.now)) (marks_at (lists_of c.args.table.now)) c.requires.kept.corner;
  kept = c.requires.kept;
  left = c.requires.left;
  values = c.requires.values;
  fits = no_rows_fit (lists_of c.args.table.now) c.args.rows.now;
}

pub push_row-requires : goal.push_row-requires
push_row-requires c =
    record {
      row = record {
        kept = c.loop-i.invariant.kept;
        left = c.loop-i.invariant.left;
        whole = loop_whole (lists_of c.args.table.now) (lists_of c.loop-i.table) c.args.rows.now c.loop-i.i c.index-rows-i.result c.loop-i.invariant.lists c.requires.whole c.loop-i-test.true
            (this_row c.args.rows.now c.loop-i.i c.index-rows-i.result c.loop-i-test.true c.index-rows-i.is);
      };
    }

pub returns-in-Err-clause-stop : goal.returns-in-Err-clause-stop
returns-in-Err-clause-stop c =
    add_stop (lists_of c.args.table.now) (lists_of c.loop-i.table) (lists_of c.push_row.new.table) c.args.rows.now (take c.loop-i.i c.args.rows.now) c.index-rows-i.result (drop (c.loop-i.i + 1) c.args.rows.now) c.in-Err.stop c.added_stop.result
    (stopped (lists_of c.args.table.now) (lists_of c.loop-i.table) c.args.rows.now c.loop-i.i c.index-rows-i.result c.loop-i.invariant.lists c.requires.whole c.loop-i-test.true c.index-rows-i.is c.loop-i.invariant.kept c.loop-i.invariant.begins c.loop-i.invariant.values)
    c.in-Err.ensures.stop c.in-Err.ensures.same
    (subst (λ (rest : List Row). IsPathStop (lists_of c.push_row.new.table) rest c.in-Err.stop c.added_stop.result) (rest_rows c.args.rows.now c.loop-i.i c.index-rows-i.result c.loop-i-test.true c.index-rows-i.is) c.added_stop.ensures)

pub loop-i-preserved : goal.loop-i-preserved
loop-i-preserved c =
    let whole = loop_whole (lists_of c.args.table.now) (lists_of c.loop-i.table) c.args.rows.now c.loop-i.i c.index-rows-i.result c.loop-i.invariant.lists c.requires.whole c.loop-i-test.true
    (this_row c.args.rows.now c.loop-i.i c.index-rows-i.result c.loop-i-test.true c.index-rows-i.is) in
    let next = next_rows c.args.rows.now c.loop-i.i c.index-rows-i.result c.loop-i-test.true c.index-rows-i.is in
    record {
      past = history_trans c.args.table.now c.loop-i.table c.push_row.new.table c.loop-i.invariant.past c.in_default.ensures.past;
      lists = subst (λ (more : List Row). ArePushed more (lists_of c.args.table.now) (lists_of c.push_row.new.table)) next
          (one_pushed (take c.loop-i.i c.args.rows.now) (lists_of c.args.table.now) (lists_of c.loop-i.table) (lists_of c.push_row.new.table) c.index-rows-i.result c.loop-i.invariant.lists c.in_default.ensures.lists c.loop-i.invariant.kept whole);
      begins = subst (λ (more : List Row). BeginsWith (problem_of (lists_of c.push_row.new.table)) (marks_at (lists_of c.args.table.now)) more [] (marks_at (lists_of c.push_row.new.table))) next
          (begins_one (marks_at (lists_of c.args.table.now)) (take c.loop-i.i c.args.rows.now) (lists_of c.loop-i.table) (lists_of c.push_row.new.table) c.index-rows-i.result whole c.loop-i.invariant.kept.corner c.loop-i.invariant.begins c.in_default.ensures.joined);
      kept = c.in_default.ensures.kept;
      left = c.in_default.ensures.left;
      values = values_one (lists_of c.loop-i.table) (lists_of c.push_row.new.table) c.index-rows-i.result whole c.loop-i.invariant.kept.corner c.loop-i.invariant.values c.in_default.ensures.joined;
      fits = next_rows_fit (lists_of c.args.table.now) (lists_of c.loop-i.table) c.args.rows.now c.loop-i.i c.index-rows-i.result
          (stopped (lists_of c.args.table.now) (lists_of c.loop-i.table) c.args.rows.now c.loop-i.i c.index-rows-i.result c.loop-i.invariant.lists c.requires.whole c.loop-i-test.true c.index-rows-i.is c.loop-i.invariant.kept c.loop-i.invariant.begins c.loop-i.invariant.values)
          c.requires.kept.corner c.in_default.ensures.fits c.loop-i-test.true c.index-rows-i.is c.loop-i.invariant.fits;
    }

pub returns-clause-fits : goal.returns-clause-fits
returns-clause-fits c = all_rows_fit (lists_of c.args.table.now) c.args.rows.now c.loop-i.i c.loop-i-test.false c.loop-i.invariant.fits
