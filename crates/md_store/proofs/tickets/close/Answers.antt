use Rattle.std.proofs.Common.{ap, ◌∙◌}
use Rattle.md_store.specs.Open.{tickets_of}
use Rattle.md_store.proofs.Opening.{closed}
use Rattle.md_store.proofs.tickets.close.Goals as goal

pub returns-clause-closed : goal.returns-clause-closed
returns-clause-closed c =
    let d = c.requires.drawn in
    ap tickets_of c.remove.ensures.entries ∙ closed c.args.tickets.now.entries d.0 c.args.number d.1
