use Rattle.std.proofs.Common.{rules, ◌≡◌, [], ◌∷◌, subst}
use Rattle.md_index.proofs.Keying.{HaveKeys, keys_more, keys_last}
use Rattle.md_index.proofs.keys.of_each.Goals as goal

pub loop-indexed-preserved : goal.loop-indexed-preserved
loop-indexed-preserved c =
    let values = c.args.values.now in
    let step : c.loop-indexed.indexed-iterator ≡ (c.in-Some.indexed.now, c.in-Some.field-0-1.now) ∷ c.next.new.self = search rules in (
      c.insert.ensures.right c.loop-indexed.invariant.0,
      keys_more c.args.fold c.args.marks values c.loop-indexed.keys c.insert.new.keys c.in-Some.indexed.now c.in-Some.field-0-1.now c.next.new.self c.insert.ensures.kept (search rules)
          (subst (HaveKeys c.args.fold c.args.marks c.loop-indexed.keys values) step c.loop-indexed.invariant.1),
    )

pub returns-clause-whole : goal.returns-clause-whole
returns-clause-whole c =
    let values = c.args.values.now in
    let end : c.loop-indexed.indexed-iterator ≡ [] = search rules in
    keys_last c.args.fold c.args.marks values c.loop-indexed.keys (subst (HaveKeys c.args.fold c.args.marks c.loop-indexed.keys values) end c.loop-indexed.invariant.1)
