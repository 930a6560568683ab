use Rattle.std.proofs.Common.{rules, ◌≡◌, true}
use Rattle.md_paths.specs.Tables.{has_at}
use Rattle.md_paths.proofs.Sorting.{guessed}
use Rattle.md_paths.proofs.table.PathTable.number_of.Goals as goal

pub returns-in-Some : goal.returns-in-Some
returns-in-Some c =
    let t = c.self.inside in
    let path = c.args.path.now in
    let same : has_at t.paths.items c.in-Some.number path ≡ true = search rules in
    rw (← c.self.view_is) (guessed t.paths.items t.order.items path c.self.invariant c.in-Some.number same)
