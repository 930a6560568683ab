use Rattle.md_find.proofs.Well.{well_joined}
use Rattle.md_find.proofs.searching.both.Goals as goal

pub returns-clause-well_made : goal.returns-clause-well_made
returns-clause-well_made c =
    rw (c.in_ok-push-2.ensures.ok, c.in_ok-push.ensures.ok, c.new-members.ensures) (well_joined c.args.first c.args.second c.requires.first c.requires.second)
