use Rattle.std.proofs.Common.{◌≡◌, false, List, [], ◌∷◌, ◌++◌, sym, ◌∙◌, ap, append_assoc}
use Rattle.std.specs.Vec.Iter.{into_iter_items}
use Rattle.md_world.proofs.Lists.{all_more}
use Rattle.md_workers.specs.declared.actor.Ended.{Ended}
use Rattle.md_workers.proofs.Totals.{kept_more, some_more}
use Rattle.md_workers.proofs.close.gather.Goals as goal

pub loop-actor-preserved : goal.loop-actor-preserved
loop-actor-preserved c =
    let inv = c.loop-actor.invariant in
    let actor = c.in-Some.actor in
    let yielded = c.loop-actor.yielded in
    let rest = into_iter_items c.next.new.self in
    let step : into_iter_items c.loop-actor.actor-iterator ≡ actor ∷ rest = c.in-Some.ensures.steps.0 in
    record {
      front = append_assoc yielded (actor ∷ []) rest ∙ ap (λ (xs : List Ended). yielded ++ xs) (sym step) ∙ inv.front;
      passes = kept_more (λ (e : Ended). e.pass) c.args.passes.now.items c.loop-actor.passes.items _ yielded actor inv.passes c.in_ok-push.ensures.items;
      seats = some_more (λ (e : Ended). e.seat) c.args.seats.now.items c.loop-actor.seats.items _ yielded actor inv.seats c.in_ok-keep_seat.ensures;
      whole = all_more (λ (e : Ended). e.refused ≡ false) yielded actor inv.whole c.if-actor.false;
    }
