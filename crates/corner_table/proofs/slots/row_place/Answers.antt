use Rattle.std.proofs.Common.{rules, ltb}
use Rattle.std.proofs.lemmas.List.Sorted.{IsPartitionPoint-from_clause, IsPartitionedBy-ltb}
use Rattle.corner_table.proofs.Basics.RowPlaces.{found_in}
use Rattle.corner_table.proofs.slots.row_place.Goals as goal

pub returns-clause-within : goal.returns-clause-within
returns-clause-within c =
    (found_in c.as_slice.result.now c.args.table.now.rows.items c.args.id c.partition_point.result c.as_slice.ensures c.requires.kept.whole.rising c.requires.held
    (λ never. IsPartitionPoint-from_clause (λ r. ltb r.id c.args.id) _ _ c.partition_point.ensures.partitioned (IsPartitionedBy-ltb (λ r. r.id) _ c.args.id never) (λ a r q j. search rules))).0

pub returns-clause-is : goal.returns-clause-is
returns-clause-is c =
    (found_in c.as_slice.result.now c.args.table.now.rows.items c.args.id c.partition_point.result c.as_slice.ensures c.requires.kept.whole.rising c.requires.held
    (λ never. IsPartitionPoint-from_clause (λ r. ltb r.id c.args.id) _ _ c.partition_point.ensures.partitioned (IsPartitionedBy-ltb (λ r. r.id) _ c.args.id never) (λ a r q j. search rules))).1
