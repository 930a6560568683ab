use Rattle.std.proofs.Common.{◌≡◌, [], ◌∷◌, ◌++◌, List, sym, ◌∙◌, ap, arith, append_assoc, length-append}
use Rattle.std.specs.Vec.Iter.{into_iter_items}
use Rattle.md_machine.specs.declared.Event.{Event}
use Rattle.md_workers.proofs.Making.{made_more}
use Rattle.md_workers.proofs.client.serve.Goals as goal

pub loop-event-preserved : goal.loop-event-preserved
loop-event-preserved g c =
    let inv = c.loop-event.invariant in
    let event = c.in-Some.event in
    let yielded = c.loop-event.yielded in
    let rest = into_iter_items c.next.new.self in
    let step : into_iter_items c.loop-event.event-iterator ≡ event ∷ rest = c.in-Some.ensures.steps.0 in
    let same = c.in_ok-act.ensures.same in
    record {
      front = append_assoc yielded (event ∷ []) rest ∙ ap (λ (events : List Event). yielded ++ events) (sym step) ∙ inv.front;
      same = (same.0 ∙ inv.same.0, same.1 ∙ inv.same.1);
      count = omega (arith, c.in_ok-act.ensures.count, inv.count, length-append yielded (event ∷ []));
      made = made_more c.args.pass.now c.loop-event.pass c.act.new.pass yielded (event ∷ []) inv.made c.in_ok-act.ensures.made;
    }
