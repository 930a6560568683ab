use Rattle.md_machine.proofs.Live.{keys_distinct, disables_bounded, clients_bounded}
use Rattle.md_machine.proofs.laws.queries_bounded.Goals as goal

pub returns : goal.returns
returns c = record { keys = keys_distinct; disables = disables_bounded; clients = clients_bounded }
