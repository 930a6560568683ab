use Rattle.std.proofs.Common.{ap, ◌∙◌}
use Rattle.md_store.specs.Stores.{Stored}
use Rattle.md_hub.specs.States.{state_of}
use Rattle.md_hub.proofs.Tying.{vacuum_is}
use Rattle.md_hub.proofs.desk.vacuum.Goals as goal

pub returns-clause-state : goal.returns-clause-state
returns-clause-state c queries shown = ap (λ (s : Stored). state_of s queries) c.vacuum.ensures.state ∙ vacuum_is c.args.store.now queries shown
