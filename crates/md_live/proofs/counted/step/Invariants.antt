use Rattle.md_live.proofs.counted.step.Given as goal

-- the counter's ledger is the one that is opened
abbrev pub ghosts-step_counted : goal.ghosts-step_counted
ghosts-step_counted a = record { name = a.blank.name; parts = 1 }
