use Rattle.std.proofs.Common.{ltb, rules}
use Rattle.std.proofs.lemmas.List.Sorted.{IsPartitionPoint-from_clause, IsPartitionedBy-ltb}
use Rattle.problem_core.specs.Layout.{Row}
use Rattle.layout_solver.proofs.Shifts.ConstantReads.{found_constants, found_within, rising_ids}
use Rattle.layout_solver.proofs.shifting.constant_of.Goals as goal

pub bounds-rows-at : goal.bounds-rows-at
bounds-rows-at c =
    found_within c.args.rows.now c.args.id c.partition_point-at.result c.requires.rising c.requires.held
    (IsPartitionPoint-from_clause (λ (r : Row). ltb r.id c.args.id) c.args.rows.now c.partition_point-at.result c.partition_point-at.ensures.partitioned
    (IsPartitionedBy-ltb (λ (r : Row). r.id) c.args.rows.now c.args.id (rising_ids c.args.rows.now c.requires.rising)) (λ a r f k. search rules))

pub returns : goal.returns
returns c =
    rw c.constant.ensures
    (found_constants c.args.rows.now c.args.id c.partition_point-at.result c.requires.rising c.requires.held
    (IsPartitionPoint-from_clause (λ (r : Row). ltb r.id c.args.id) c.args.rows.now c.partition_point-at.result c.partition_point-at.ensures.partitioned
    (IsPartitionedBy-ltb (λ (r : Row). r.id) c.args.rows.now c.args.id (rising_ids c.args.rows.now c.requires.rising)) (λ a r f k. search rules))
    c.index-rows-at.result c.index-rows-at.is)
