use Rattle.std.proofs.Common.{ap, ◌∙◌}
use Rattle.md_store.specs.Open.{tickets_of}
use Rattle.md_store.proofs.Opening.{opened}
use Rattle.md_store.proofs.tickets.open.Goals as goal

pub returns-clause-ok : goal.returns-clause-ok
returns-clause-ok c =
    let d = c.requires.drawn in
    ap tickets_of c.in_ok-insert.ensures.entries ∙ opened c.args.tickets.now.entries d.0 c.args.number c.args.path d.1 d.2
