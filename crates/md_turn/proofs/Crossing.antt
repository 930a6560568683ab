-- What a lock has under it may go from thread to thread.

use denote.RattleType.{RattleType}
use denote.Struct.Declared as struct
use denote.Enum.Declared as enum
use denote.Param.Send.{IsSend, IsSync, sendable, plain_send, struct_send, enum_send, recorded_send, struct_sync, recorded_sync, view_sync}
use Rattle.md_machine.proofs.Crossing.{event_field_sends}
use Rattle.md_machine.proofs.Reply.TheSendSync as reply_sent
use Rattle.std.proofs.alloc.Global.TheSendSync as heap_sent
use Rattle.std.proofs.vec.Vec.TheSendSync as vec_sent
use Rattle.std.proofs.Crossing.{frees, crosses}
use Rattle.md_turn.specs.contracts.journal.JournalEntry as entry
use Rattle.std.specs.contracts.option.Option as option
use Rattle.std.specs.contracts.snapshot.Snapshot as snapshot
use Rattle.std.specs.contracts.alloc.Global as heap
use Rattle.std.specs.contracts.impls.GlobalAllocator.TheImpl.{ghosts}
use Rattle.atomic_table.proofs.owned.Table.TheSendSync as table_sent
use Rattle.md_turn.specs.contracts.journaled.Journaled as journaled
use Rattle.md_turn.specs.declared.journaled.Core.{Ghosts}
use Rattle.md_turn.specs.contracts.rule.View as view
use Rattle.md_turn.specs.contracts.rule.Rule as rule
use Rattle.md_turn.specs.contracts.rule.RuleTableRuleOptionJournaledViewSnapshot.TheImpl as impl
use Rattle.md_turn.specs.contracts.turn.Turn as turn
use Rattle.md_turn.specs.contracts.turn.Turn.TheInside as inside

entry_field_sends : IsSend (entry.the_field).row
entry_field_sends = struct_send (struct.shape entry.the_type) (plain_send _ _ _ _ _, (event_field_sends, (reply_sent.the_field_send, tt)))

pub entry_sends : IsSend entry.the_row
entry_sends = recorded_send (entry.the_field).row _ _ (entry.the_type).to_one entry_field_sends

journaled_field_sends : (C : RattleType) → IsSend C → IsSend (journaled.the_field C).row
journaled_field_sends C c = struct_send (struct.shape (journaled.the_type C)) (heap_sent.the_field_send, (c, (search (sendable, vec_sent.the_send, entry_sends, heap_sent.the_send, frees) depth 8, tt)))

journaled_sends : (C : RattleType) → IsSend C → IsSend (journaled.the_row C)
journaled_sends C c = recorded_send (journaled.the_field C).row _ _ (journaled.the_type C).to_one (journaled_field_sends C c)

slot_sends : (C : RattleType) → IsSend C → IsSend (option.the_row (journaled.the_row C))
slot_sends C c =
    let slot : RattleType = journaled.the_row C in
    recorded_send (option.the_field slot).row _ _ (option.the_type slot).to_one (enum_send (enum.shape (option.the_type slot)) (tt, ((journaled_sends C c, tt), tt)))

inside_syncs : (C : RattleType) (g : Ghosts C.Denot) → IsSend C → IsSync (inside.the_row C g)
inside_syncs C g c =
    recorded_sync (inside.the_field C g).row _ _ (inside.the_type C g).to_one (struct_sync (struct.shape (inside.the_type C g))
    (table_sent.the_field_sync (option.the_row (journaled.the_row C)) view.the_row (snapshot.the_row C) (rule.the_row C) heap.the_row (impl.ghosts C g impl.no_dict impl.no_dict) ghosts (slot_sends C c) heap_sent.the_send heap_sent.the_sync frees, (search (sendable, crosses) depth 8, tt)))

-- threads may share a lock
pub turn_syncs : (C : RattleType) (g : Ghosts C.Denot) → IsSend C → IsSync (turn.the_row C g)
turn_syncs C g c = search (view_sync, inside_syncs C g c)
