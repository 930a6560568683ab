use Rattle.std.proofs.Common.{◌∷◌, ◌++◌, [], ◌+◌, ◌∙◌, List, take, subst, sym, ap}
use Rattle.std.proofs.lemmas.List.{take_more}
use Rattle.md_machine.specs.declared.Event.{Event}
use Rattle.md_machine.specs.declared.Reply.{Reply}
use Rattle.md_hub.specs.Received.{IsReceived}
use Rattle.md_hub.proofs.Refused.{received_more}
use Rattle.md_hub.proofs.runs.run.Goals as goal

pub loop-event-preserved : goal.loop-event-preserved
loop-event-preserved g c =
    let l = c.loop-event in
    let events = c.args.events.now in
    let e = c.event-item.result in
    let r = c.step-reply.result in
    let new = c.step-reply.new.self.state in
    let received = received_more c.args.limits (take l.event-index events) l.replies.items l.hub.state l.invariant e r new c.step-reply.ensures.step in
    let prefixes = take_more events l.event-index e c.loop-event-test.true ∙ ap (λ (x : Event). take l.event-index events ++ x ∷ []) (sym c.event-item.is) in
    subst (λ (rs : List Reply). IsReceived c.args.limits (take (l.event-index + 1) events) rs new) (sym c.in_ok-push.ensures.items)
    (subst (λ (es : List Event). IsReceived c.args.limits es (l.replies.items ++ r ∷ []) new) (sym prefixes) received)
