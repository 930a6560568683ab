use Rattle.md_machine.proofs.Law.{newest_is_last, base_not_newer, given_within}
use Rattle.md_machine.proofs.laws.queries_stand.Goals as goal

pub returns : goal.returns
returns c = record { newest = newest_is_last; bases = base_not_newer; given = given_within }
