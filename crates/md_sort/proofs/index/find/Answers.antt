use Rattle.std.proofs.Common.{rules}
use Rattle.slab.specs.Slab.{get}
use Rattle.md_sort.specs.Slots.{rows_at}
use Rattle.md_sort.proofs.Placed.{not_there}
use Rattle.md_sort.proofs.index.find.Goals as goal

pub returns-else-has_at-clause-found : goal.returns-else-has_at-clause-found
returns-else-has_at-clause-found c = let none = not_there c.args.path.now (rows_at (get c.args.rows.now) c.args.paths.now.items) c.requires.ordered in search rules
