use Rattle.std.proofs.Common.{◌≡◌, ◌++◌, false, map}
use Rattle.std.specs.List.{AllByRecursion, filter_map}
use Rattle.std.specs.Vec.Iter.{into_iter_items}
use Rattle.md_workers.specs.declared.actor.Ended.{Ended}
use Rattle.md_workers.proofs.close.gather.Given as goal

-- the passes and seats so far are kept
abbrev pub invariant-loop-actor : goal.invariant-loop-actor
invariant-loop-actor l = record {
  front : l.yielded ++ into_iter_items l.actor-iterator ≡ l.fn.ended.items;
  passes : l.passes.items ≡ l.initial.passes.items ++ map (λ (e : Ended). e.pass) l.yielded;
  seats : l.seats.items ≡ l.initial.seats.items ++ filter_map (λ (e : Ended). e.seat) l.yielded;
  whole : AllByRecursion (λ (e : Ended). e.refused ≡ false) l.yielded;
}
