use Rattle.std.proofs.Common.{All, subst}
use Rattle.md_turn.specs.Journal.{Has, Rises}
use Rattle.md_turn.specs.Passes.{Known}
use Rattle.md_turn.proofs.pass.Pass.own_are_seen.Goals as goal

pub returns-clause-seen : goal.returns-clause-seen
returns-clause-seen c = subst (λ (k : Known). All (Has k.seen) k.own) c.self.view_is c.self.invariant.own

pub returns-clause-rises : goal.returns-clause-rises
returns-clause-rises c = subst (λ (k : Known). Rises k.own) c.self.view_is c.self.invariant.rises
