use Rattle.md_turn.proofs.Slots.{taken_carries, taken_holds, made_ready, unmade_ready, acted, unacted}
use Rattle.md_turn.proofs.steps.act_by.Goals as goal

pub act_journaled-requires-clause-carries : goal.act_journaled-requires-clause-carries
act_journaled-requires-clause-carries g c κs within = taken_carries _ _ c.args.seat.now.me _ _ _ c.draw_ticket-ticket.ensures.drawn c.await_turn.ensures.taken

pub pass_on-requires-clause-made : goal.pass_on-requires-clause-made
pass_on-requires-clause-made g c κs within = made_ready _ _ _ _ _ c.in-Ok.answer _ c.in-Ok.ensures.view (taken_holds _ _ _ _ c.await_turn.ensures.taken) c.in-Ok.ensures.acted

pub give_up-requires-clause-unchanged : goal.give_up-requires-clause-unchanged
give_up-requires-clause-unchanged g c κs within = unmade_ready _ _ _ _ _ c.in-Err.ensures.view (taken_holds _ _ _ _ c.await_turn.ensures.taken) c.in-Err.ensures.refused.1

pub returns-in-Ok-clause-rests : goal.returns-in-Ok-clause-rests
returns-in-Ok-clause-rests g c = (acted _ _ c.args.seat.now.me _ _ _ _ _ _ _ c.in-Ok.answer c.draw_ticket-ticket.ensures.drawn c.await_turn.ensures.taken c.in-Ok.ensures.view c.in-Ok.ensures.acted c.pass_on.ensures.left).0

pub returns-in-Ok-clause-acted : goal.returns-in-Ok-clause-acted
returns-in-Ok-clause-acted g c = (acted _ _ c.args.seat.now.me _ _ _ _ _ _ _ c.in-Ok.answer c.draw_ticket-ticket.ensures.drawn c.await_turn.ensures.taken c.in-Ok.ensures.view c.in-Ok.ensures.acted c.pass_on.ensures.left).1

pub returns-in-Err-clause-refused : goal.returns-in-Err-clause-refused
returns-in-Err-clause-refused g c =
    let made = unacted _ _ c.args.seat.now.me _ _ _ _ _ c.draw_ticket-ticket.ensures.drawn c.await_turn.ensures.taken c.in-Err.ensures.view c.give_up.ensures.left in
    (c.in-Err.ensures.refused.0, made.1.0, made.1.1)
