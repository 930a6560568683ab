use Rattle.md_files.proofs.Orders.{listed}
use Rattle.md_find.proofs.reading.list_files.Goals as goal

pub returns-clause-listed : goal.returns-clause-listed
returns-clause-listed g c =
    let given = c.in_ok-list.ensures in
    let ordered = c.in_path_order-entries in
    listed (g.T.Tree.content c.args.tree.now) c.args.folder.now c.in_ok-list.field-0.items ordered.result.items given.listing given.folder given.entries ordered.ensures.same ordered.ensures.ordered
