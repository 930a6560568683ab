use Rattle.std.proofs.Common.{rules}
use Rattle.std.proofs.lemmas.List.Sorted.{answers_always}
use Rattle.md_value.specs.Values.{is_before}
use Rattle.md_files.proofs.Orders.{path_before, strict, ascends}
use Rattle.md_files.proofs.importing.in_path_order.Goals as goal

pub returns-clause-ordered : goal.returns-clause-ordered
unfolding is_before
returns-clause-ordered c =
    ascends c.args.entries.items c.sort_unstable_by.new.self.items c.requires c.sort_unstable_by.ensures.permutation
    (c.sort_unstable_by.ensures.sorted path_before strict (answers_always _ _ _ (λ f a r f' called. search rules)))
