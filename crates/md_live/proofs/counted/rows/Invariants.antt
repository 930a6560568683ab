use Rattle.md_live.proofs.counted.rows.Given as goal

-- the counter's ledger is the one that is opened
abbrev pub ghosts-rows_counted : goal.ghosts-rows_counted
ghosts-rows_counted a = record { name = a.blank.name; parts = 1 }
