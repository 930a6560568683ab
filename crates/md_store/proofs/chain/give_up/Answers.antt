use Rattle.std.proofs.Common.{◌∙◌, rules}
use Rattle.std.proofs.lemmas.Fn.{filter_same}
use Rattle.md_store.specs.Chains.{is_seen}
use Rattle.md_store.proofs.chain.give_up.Goals as goal

pub returns-clause-items : goal.returns-clause-items
returns-clause-items c = c.shrink_to_fit.ensures.items ∙ filter_same _ (is_seen c.args.newest c.args.pins.now) _ (λ x b f h. search rules) _ _ c.retain.ensures.filtered
