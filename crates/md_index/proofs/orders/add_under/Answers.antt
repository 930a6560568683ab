use Rattle.std.proofs.Common.{rules}
use Rattle.md_index.specs.declared.wanted.Wanted.{Wanted}
use Rattle.md_index.proofs.Keying.{grown}
use Rattle.md_index.proofs.orders.add_under.Goals as goal

pub returns-in-Some-clause-grows : goal.returns-in-Some-clause-grows
returns-in-Some-clause-grows c =
    let wanted : Wanted = record { name = c.in_ok-copy.field-0; fold = c.args.fold; marks = c.args.marks } in
    grown c.args.orders.now (c.get_mut.follows.lender c.insert.new.keys) wanted c.in-Some.keys.now c.insert.new.keys (search rules) ((c.get_mut.follows.holds c.insert.new.keys).3 (search rules)).0
    c.insert.ensures.right c.insert.ensures.kept
