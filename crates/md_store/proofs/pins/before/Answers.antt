use Rattle.std.proofs.Common.{rules}
use Rattle.std.proofs.lemmas.List.Sorted.{IsPartitionPoint-from_clause}
use Rattle.md_store.proofs.Pinning.{is_below, parted, point_is}
use Rattle.md_store.proofs.pins.before.Goals as goal

pub returns-clause-value : goal.returns-clause-value
returns-clause-value c =
    let v = c.args.version in
    let pins = c.args.pins.now in
    point_is v pins _ c.partition_point.ensures.bound (IsPartitionPoint-from_clause (is_below v) _ _ c.partition_point.ensures.partitioned (parted v pins c.requires) (λ a r q k. search rules))
