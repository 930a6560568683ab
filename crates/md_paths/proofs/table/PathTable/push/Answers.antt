use Rattle.std.proofs.Common.{rules, ◌≡◌, ◌++◌, ◌∷◌, [], length, sym, subst}
use Rattle.std.specs.Prelude.{None}
use Rattle.std.specs.List.{prefix_len, insert}
use Rattle.md_paths.specs.Tables.{number_in, stands_before, AreSorted}
use Rattle.md_paths.proofs.Adding.{added}
use Rattle.md_paths.proofs.table.PathTable.push.Goals as goal

pub invariant_of-self : goal.invariant_of-self
invariant_of-self c =
    let keys = c.self.inside.paths.items in
    let order = c.self.inside.order.items in
    let path = c.args.path in
    let rank = c.rank_of-rank.result in
    let is : rank ≡ prefix_len (stands_before keys path) order = search rules in
    let absent : number_in keys path ≡ None = rw (← c.self.view_is) at c.requires.absent in
    let items : c.push.new.self.items ≡ keys ++ path ∷ [] = search rules in
    let put : c.insert.new.self.items ≡ insert order rank (length keys) = search rules in
    subst (λ ks. AreSorted ks c.insert.new.self.items) (sym items) (subst (AreSorted (keys ++ path ∷ [])) (sym put) (added keys path order rank c.self.invariant absent is))
