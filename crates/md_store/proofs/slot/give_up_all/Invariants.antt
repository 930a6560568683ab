use Rattle.std.proofs.Common.{◌≡◌, ◌+◌, ◌++◌, take, drop, map, length}
use Rattle.md_store.specs.Places.{bare, bare_seen, rows_in}
use Rattle.md_store.proofs.slot.give_up_all.Given as goal

-- the slots before the place are done, and the others as they were
abbrev pub invariant-loop-place : goal.invariant-loop-place
invariant-loop-place l = record {
  len : length l.slots.items ≡ length l.initial.slots.items;
  seen : map bare l.slots.items ≡ map (bare_seen l.newest l.pins) (take l.place (map bare l.initial.slots.items)) ++ drop l.place (map bare l.initial.slots.items);
  count : l.given + rows_in (map bare l.slots.items) ≡ rows_in (map bare l.initial.slots.items);
}
