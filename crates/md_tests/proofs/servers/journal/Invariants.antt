use Rattle.md_tests.proofs.servers.journal.Given as goal

-- the counter's ledger is the one that is opened
abbrev pub ghosts-counted_journal : goal.ghosts-counted_journal
ghosts-counted_journal a = record { name = a.blank.name; parts = 1 }
