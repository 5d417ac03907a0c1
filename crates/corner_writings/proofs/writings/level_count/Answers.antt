use Rattle.std.proofs.Common.{rules, ltb, arith}
use Rattle.std.proofs.lemmas.Bool.{ltb-false, ltb-true}
use Rattle.std.proofs.lemmas.List.Sorted.{IsPartitionPoint-from_clause, IsPartitionedBy-ltb}
use Rattle.corner_writings.proofs.Readings.MoverFacts.{never_falls}
use Rattle.corner_table.specs.declared.table.TheConstants.{LEVELS}
use Rattle.corner_writings.proofs.writings.level_count.Goals as goal

pub returns-clause-before : goal.returns-clause-before
returns-clause-before c = λ k less.
    let point = IsPartitionPoint-from_clause (λ x. ltb x LEVELS) _ _ c.partition_point.ensures.partitioned (IsPartitionedBy-ltb (λ x. x) _ LEVELS (never_falls c.args.column.now c.requires.rising)) (λ a r q j. search rules) in
    ltb-true _ _ (point.0 k 0 (omega arith) less)

pub returns-clause-behind : goal.returns-clause-behind
returns-clause-behind c = λ k from to.
    let point = IsPartitionPoint-from_clause (λ x. ltb x LEVELS) _ _ c.partition_point.ensures.partitioned (IsPartitionedBy-ltb (λ x. x) _ LEVELS (never_falls c.args.column.now c.requires.rising)) (λ a r q j. search rules) in
    ltb-false _ _ (point.1 k 0 from to)
