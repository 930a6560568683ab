use Rattle.md_turn.proofs.turn.Turn.split.Given as goal

abbrev pub ghosts-cut_by : goal.ghosts-cut_by
ghosts-cut_by g a = record { amount = a.share }
