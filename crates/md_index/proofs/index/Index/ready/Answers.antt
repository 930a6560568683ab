use Rattle.std.proofs.Common.{◌∙◌, sym, subst}
use Rattle.md_index.specs.Indexed.{HoldKeys}
use Rattle.md_index.proofs.Keying.{keys_hold}
use Rattle.md_index.proofs.index.Index.ready.Goals as goal

pub returns-in-Err-clause-rows : goal.returns-in-Err-clause-rows
returns-in-Err-clause-rows c rows holds = (
  λ n v p. c.sweep.ensures.values n v p ∙ c.make_room.ensures.values n v p ∙ holds.0 n v p,
  λ p. c.sweep.ensures.places p ∙ c.make_room.ensures.places p ∙ holds.1 p,
  subst (λ orders. HoldKeys orders rows) (sym c.sweep.ensures.orders) (keys_hold c.args.self.now.orders c.make_room.new.self.orders rows c.make_room.ensures.grows holds.2),
)

pub returns-clause-rows : goal.returns-clause-rows
returns-clause-rows c rows holds = (
  λ n v p. c.make_room.ensures.values n v p ∙ holds.0 n v p,
  λ p. c.make_room.ensures.places p ∙ holds.1 p,
  keys_hold c.args.self.now.orders c.make_room.new.self.orders rows c.make_room.ensures.grows holds.2,
)
