use Rattle.md_turn.proofs.turn.Turn.act.Given as goal

abbrev pub ghosts-act_by : goal.ghosts-act_by
ghosts-act_by g a = record { state = g.C.Core.state a.turns.now.shared.key.value }
