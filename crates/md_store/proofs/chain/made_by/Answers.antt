use Rattle.std.proofs.Common.{rules}
use Rattle.std.proofs.lemmas.List.Sorted.{IsPartitionPoint-from_clause}
use Rattle.md_store.proofs.Searching.{is_made, parted, point_is}
use Rattle.md_store.proofs.chain.made_by.Goals as goal

pub returns-clause-value : goal.returns-clause-value
returns-clause-value c =
    let v = c.args.version in
    let chain = c.args.chain.now in
    point_is v chain _ c.partition_point.ensures.bound (IsPartitionPoint-from_clause (is_made v) _ _ c.partition_point.ensures.partitioned (parted v chain c.requires) (λ a r q k. search rules))
