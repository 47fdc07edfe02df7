use Rattle.std.proofs.Common.{ltb, ltb-true, ltb-false, rules}
use Rattle.std.proofs.lemmas.List.Sorted.{IsPartitionPoint-from_clause, IsPartitionedBy-ltb}
use Rattle.monitor_rule.proofs.numbers.place_among.Goals as goal

pub returns-clause-place : goal.returns-clause-place
returns-clause-place c =
    let parted = IsPartitionedBy-ltb (λ n. n) _ c.args.number c.requires in
    let point = IsPartitionPoint-from_clause (λ n. ltb n c.args.number) _ _ c.partition_point.ensures.partitioned parted (λ a r q k. search rules) in
    ((λ k d from lt. ltb-true _ _ (point.0 k d from lt)), (λ k d from lt. ltb-false _ _ (point.1 k d from lt)))
