use Rattle.md_workers.proofs.Merged.{team_merged}
use Rattle.md_workers.proofs.laws.actors_merge.Goals as goal

pub returns : goal.returns
returns c jobs asked clients workers state journal r =
    team_merged jobs asked clients workers r.pool r.opened r.drawn r.first r.seat r.actors r.ended state journal r.some r.none r.made r.own r.unused r.fresh r.roles r.run r.whole r.closed r.once r.ask
