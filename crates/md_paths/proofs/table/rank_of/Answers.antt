use Rattle.std.proofs.Common.{rules}
use Rattle.md_paths.specs.Tables.{stands_before}
use Rattle.md_paths.proofs.Sorting.{parted}
use Rattle.md_paths.proofs.table.rank_of.Goals as goal

pub returns-clause-value : goal.returns-clause-value
returns-clause-value c =
    let keys = c.args.paths.now in
    let path = c.args.path.now in
    c.partition_point.ensures.value (stands_before keys path) (λ number passed fits known. search rules) (parted keys path c.args.order.now.items c.requires.within c.requires.ascend)
