use Rattle.std.proofs.Common.{rules, ◌≡◌, ◌<◌, length, refl}
use Rattle.std.specs.Prelude.{Some, slice_get}
use Rattle.std.proofs.lemmas.Option.{slice_get_read}
use Rattle.md_index.proofs.Keying.{grows_then, facts_more}
use Rattle.md_index.proofs.orders.add_each.Goals as goal

pub loop-fact-preserved : goal.loop-fact-preserved
loop-fact-preserved c =
    let i = c.loop-fact.fact-index in
    let facts = c.args.facts.now in
    let within : i < length facts = search rules in
    let there : slice_get facts i ≡ Some c.fact-item.result = slice_get_read facts (length facts) i c.fact-item.result refl within (search rules) in (
      grows_then c.args.orders.now c.loop-fact.orders c.add.new.orders c.loop-fact.invariant.0 c.add.ensures.grows,
      facts_more c.loop-fact.orders c.add.new.orders facts i c.fact-item.result there c.add.ensures.grows (search rules) c.loop-fact.invariant.1,
    )

pub returns-in_err-add-clause-grows : goal.returns-in_err-add-clause-grows
returns-in_err-add-clause-grows c = grows_then c.args.orders.now c.loop-fact.orders c.add.new.orders c.loop-fact.invariant.0 c.add.ensures.grows
