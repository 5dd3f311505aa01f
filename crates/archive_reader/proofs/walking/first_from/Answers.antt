use Rattle.std.proofs.Common.{ℕ, List, ltb, ltb-true, arith, rules}
use Rattle.std.proofs.lemmas.Bool.{ltb-false}
use Rattle.std.proofs.lemmas.List.Sorted.{IsPartitionPoint-from_clause, IsPartitionedBy-ltb}
use Rattle.archive_reader.proofs.Stepping.{rising, from_parted}
use Rattle.archive_reader.proofs.walking.first_from.Goals as goal

pub returns-clause-volumes : goal.returns-clause-volumes
returns-clause-volumes c =
    let volumes : List (ℕ × ℕ) = c.args.volumes.now in
    let parted = IsPartitionedBy-ltb (λ (v : ℕ × ℕ). v.0) volumes c.args.number (rising volumes c.requires) in
    let point = IsPartitionPoint-from_clause (λ (v : ℕ × ℕ). ltb v.0 c.args.number) _ _ c.partition_point.ensures.partitioned parted (λ a r q k. search rules) in
    from_parted c.args.number volumes c.partition_point.result c.partition_point.ensures.bound (λ k d lt. ltb-true _ _ (point.0 k d (omega arith) lt)) (λ k d le lt. ltb-false _ _ (point.1 k d le lt))
