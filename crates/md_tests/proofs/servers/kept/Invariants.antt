use Rattle.md_tests.proofs.servers.kept.Given as goal

-- the counter's ledger is the one that is opened
abbrev pub ghosts-counted_rows : goal.ghosts-counted_rows
ghosts-counted_rows a = record { name = a.blank.name; parts = 1 }
