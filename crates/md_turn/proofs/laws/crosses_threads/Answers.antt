use denote.Exit.{no}
use denote.Param.{param}
use denote.Param.Send.{param_sync, arg_sync}
use Rattle.md_turn.specs.contracts.turn.Turn as turn
use Rattle.md_turn.proofs.Crossing.{turn_syncs}
use Rattle.md_turn.proofs.laws.crosses_threads.Lts as lts
use Rattle.md_turn.proofs.laws.crosses_threads.Goals as goal

pub is_shared-requires-sync-T : goal.is_shared-requires-sync-T
is_shared-requires-sync-T g c κs within =
    param_sync 0 (lts.arg-0-0 g.row.C g.C.laws g.C.Core g.C.Core-dict g.C.Destruct-dict κs)
    (arg_sync _ no (turn.the_row (param 0 g.row.C) g.C.Core) (turn_syncs (param 0 g.row.C) g.C.Core c.type_bounds.send-C))
