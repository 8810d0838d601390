use Rattle.std.proofs.Common.{rules, ltb}
use Rattle.std.proofs.lemmas.List.Sorted.{IsPartitionPoint-from_clause, IsPartitionedBy-ltb}
use Rattle.clocks.proofs.Listed.{parted, rising_sorted}
use Rattle.clocks.proofs.finders.place_of.Goals as goal

pub returns : goal.returns
returns c =
    let sorted = IsPartitionedBy-ltb (λ y. y) c.args.group.now c.args.call (rising_sorted c.args.group.now c.requires) in
    parted c.args.group.now c.args.call c.partition_point.result c.partition_point.ensures.bound
    (IsPartitionPoint-from_clause (λ y. ltb y c.args.call) c.args.group.now c.partition_point.result c.partition_point.ensures.partitioned sorted (λ a r q k. search rules))
