use Rattle.std.proofs.Common.{refl, arith}
use Rattle.md_hub.proofs.Counting.{table_within}
use Rattle.md_hub.proofs.Seeing.{tables_shown}
use Rattle.md_hub.proofs.hub.Hub.kept.Goals as goal

pub returns-clause-least : goal.returns-clause-least
returns-clause-least c =
    let s = c.self.inside.store in
    let most = table_within s.places s.version in
    rw (← c.self.view_is) (omega (arith, c.kept.ensures))

pub returns-clause-newest : goal.returns-clause-newest
returns-clause-newest c = rw (← c.self.view_is) refl

pub returns-clause-bases : goal.returns-clause-bases
returns-clause-bases c = let h = c.self.inside in rw (← c.self.view_is) (tables_shown h.store.places h.queries.items)
