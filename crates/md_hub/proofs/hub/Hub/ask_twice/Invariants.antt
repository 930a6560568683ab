use Rattle.md_hub.proofs.hub.Hub.ask_twice.Given as goal

-- the counter's ledger is the one that is opened
abbrev pub ghosts-ask_counted : goal.ghosts-ask_counted
ghosts-ask_counted a = record { name = a.blank.name; parts = 1 }
