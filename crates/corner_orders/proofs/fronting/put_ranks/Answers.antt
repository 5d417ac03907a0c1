use Rattle.std.proofs.Common.{rules, ◌≡◌, ◌+◌, arith, length, slice_index_or, take}
use Rattle.corner_table.specs.declared.table.TheConstants.{LEVELS}
use Rattle.corner_table.specs.Tables.{lists_of}
use Rattle.corner_table.proofs.Corners.HistoryFacts.{same_again}
use Rattle.corner_orders.specs.Fronted.{with_rank}
use Rattle.corner_orders.proofs.Orders.FrontedTables.{ranks_count, ranks_next}
use Rattle.corner_orders.proofs.fronting.put_ranks.Goals as goal

pub put_rank-requires : goal.put_rank-requires
put_rank-requires c = record {
  within = (
      let n : length c.loop-i.table.slots.items ≡ length c.args.table.now.slots.items = ranks_count (take c.loop-i.i c.args.slots.now) (lists_of c.args.table.now) (lists_of c.loop-i.table) c.loop-i.invariant.lists in
      let lt = c.requires.within c.loop-i.i 0 c.loop-i-test.true in
      omega (arith, n, lt)
      );
}

pub loop-i-preserved : goal.loop-i-preserved
loop-i-preserved c =
    let one : lists_of c.put_rank.new.table ≡ with_rank (slice_index_or c.args.slots.now c.loop-i.i 0) (LEVELS + c.loop-i.i) (lists_of c.loop-i.table) = search rules in
    record {
      past = same_again c.args.table.now c.loop-i.table c.put_rank.new.table c.loop-i.invariant.past c.put_rank.ensures.past;
      lists = ranks_next c.args.slots.now c.loop-i.i 0 (lists_of c.args.table.now) (lists_of c.loop-i.table) (lists_of c.put_rank.new.table) c.loop-i-test.true c.loop-i.invariant.lists one;
    }
