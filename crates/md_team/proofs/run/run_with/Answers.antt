use Rattle.std.proofs.Common.{◌∷◌, map, sym, ◌∙◌, subst}
use denote.Param.Send.{sendable}
use Rattle.md_machine.specs.States.{State}
use Rattle.md_turn.specs.Passes as passes
use Rattle.md_workers.specs.declared.actor.Ended.{Ended}
use Rattle.md_jobs.specs.Sources.{job_in}
use Rattle.md_hub.proofs.Crossing.{hub_sends}
use Rattle.std.proofs.lemmas.Result.{IfOk-weaker}
use Rattle.md_team.proofs.Running.{joins, all_passes, all_shares, all_seats, all_claims, has_run, ok_all, lengths}
use Rattle.md_team.proofs.run.run_with.Goals as goal

pub ready-requires-send-C : goal.ready-requires-send-C
ready-requires-send-C g c κs within = search (sendable, hub_sends) depth 20

pub run_all-requires-after_bounds : goal.run_all-requires-after_bounds
run_all-requires-after_bounds g c κs within =
    let jobs = map (job_in c.args.jobs.now.offset) c.args.jobs.now.jobs in
    let same = lengths (job_in c.args.jobs.now.offset) c.args.jobs.now.jobs in
    joins c.args.turn.id jobs c.args.clients.items c.args.workers c.args.claims c.args.first c.ready.new.first c.args.seat c.ready.new.seat c.in_ok-actors.actors.items c.in_ok-actors.ensures c.requires.turn.0 (c.requires.claims.0 ∙ sym same) (rw same c.requires.claims.1) c.requires.clients.1

pub close_all-requires-send-C : goal.close_all-requires-send-C
close_all-requires-send-C g c κs = search (sendable, hub_sends) depth 20

pub close_all-requires-clause-passes : goal.close_all-requires-clause-passes
close_all-requires-clause-passes g c κs =
    let jobs = map (job_in c.args.jobs.now.offset) c.args.jobs.now.jobs in
    all_passes c.args.turn.id jobs c.args.clients.items c.args.workers c.args.claims c.args.first c.ready.new.first c.args.seat c.ready.new.seat c.in_ok-actors.actors.items c.in_ok-actors.ensures c.requires.turn.0 c.in_ok-ended.ended.items c.in_ok-ended.ensures

pub close_all-requires-clause-shares : goal.close_all-requires-clause-shares
close_all-requires-clause-shares g c κs =
    let jobs = map (job_in c.args.jobs.now.offset) c.args.jobs.now.jobs in
    all_shares c.args.turn.id jobs c.args.clients.items c.args.workers c.args.claims c.args.first c.ready.new.first c.args.seat c.ready.new.seat c.in_ok-actors.actors.items c.in_ok-actors.ensures c.requires.turn.0 c.in_ok-ended.ended.items c.in_ok-ended.ensures c.requires.shares.0

pub close_all-requires-clause-seats : goal.close_all-requires-clause-seats
close_all-requires-clause-seats g c κs =
    let jobs = map (job_in c.args.jobs.now.offset) c.args.jobs.now.jobs in
    all_seats c.args.turn.id jobs c.args.clients.items c.args.workers c.args.claims c.args.first c.ready.new.first c.args.seat c.ready.new.seat c.in_ok-actors.actors.items c.in_ok-actors.ensures c.requires.turn.0 c.in_ok-ended.ended.items c.in_ok-ended.ensures c.requires.turn.1

pub close_all-requires-clause-claims : goal.close_all-requires-clause-claims
close_all-requires-clause-claims g c κs =
    let jobs = map (job_in c.args.jobs.now.offset) c.args.jobs.now.jobs in
    all_claims c.args.turn.id jobs c.args.clients.items c.args.workers c.args.claims c.args.first c.ready.new.first c.args.seat c.ready.new.seat c.in_ok-actors.actors.items c.in_ok-actors.ensures c.requires.turn.0 c.in_ok-ended.ended.items c.in_ok-ended.ensures c.requires.shares.1

pub returns-clause-run : goal.returns-clause-run
returns-clause-run g c =
    let jobs = map (job_in c.args.jobs.now.offset) c.args.jobs.now.jobs in
    let ps = c.ready.new.first ∷ map (λ (e : Ended). e.pass) c.in_ok-ended.ended.items in
    ok_all c.close_all.result _ _ _ _
    (λ refused once r closed asked ask.
    has_run c.args.turn.id jobs c.args.clients.items c.args.workers c.args.claims c.args.first c.ready.new.first c.args.seat c.ready.new.seat c.in_ok-actors.actors.items c.in_ok-actors.ensures c.requires.turn.0 c.in_ok-ended.ended.items c.in_ok-ended.ensures c.requires.workers.0 c.requires.new.0 c.requires.new.2 refused once r.0.state r.1.items
    (subst (λ (o : State). passes.Ended o ps r.0.state r.1.items) c.requires.turn.2 closed) asked ask)
    c.close_all.ensures.whole c.close_all.ensures.drawn c.close_all.ensures.ended

pub returns-clause-last : goal.returns-clause-last
returns-clause-last g c =
    let ps = c.ready.new.first ∷ map (λ (e : Ended). e.pass) c.in_ok-ended.ended.items in
    IfOk-weaker c.close_all.result _ _ (λ r closed. (subst (λ (o : State). passes.Ended o ps r.0.state r.1.items) c.requires.turn.2 closed).state_is) c.close_all.ensures.ended
