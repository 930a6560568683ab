use Rattle.std.proofs.Common.{◌+◌, length, map, sym, ap, ◌∙◌}
use Rattle.std.specs.Prelude.{slice_set}
use Rattle.std.proofs.lemmas.List.{map-set}
use Rattle.md_store.specs.Places.{bare}
use Rattle.md_store.proofs.Giving.{bare_read}
use Rattle.md_store.proofs.slot.give_up_at.Goals as goal

pub returns-clause-given : goal.returns-clause-given
returns-clause-given c =
    let slots = c.args.slots.now.items in
    let slot = c.index_mut-slot.result.now in
    record {
      before = bare slot;
      read = bare_read slots c.args.place slot c.requires.place c.index_mut-slot.ensures.value;
      set = map-set bare slots c.args.place (record { stamp = slot.stamp; chain = c.give_up.new.chain }) ∙ ap (λ items. slice_set (map bare slots) c.args.place (slot.stamp, items)) c.give_up.ensures.items;
      counted = ap (λ items. c.give_up.result + length items) (sym c.give_up.ensures.items) ∙ c.give_up.ensures.count;
    }
