use Rattle.std.proofs.Common.{◌≡◌, refl, sym, ap, ◌∙◌}
use Rattle.std.specs.Prelude.{Some, slice_get}
use Rattle.std.proofs.lemmas.Option.{slice_get-get_or}
use Rattle.md_store.proofs.slot.commit_slot.Goals as goal

pub returns : goal.returns
returns c =
    let slot = c.index_mut-slot.result.now in
    let there : slice_get c.args.slots.now.items c.args.place ≡ Some slot =
    slice_get-get_or c.args.slots.now.items c.args.place slot c.requires.within ∙ ap Some (sym c.index_mut-slot.ensures.value) in
    record {
      before = slot;
      after = record { stamp = c.args.ticket; chain = c.append.new.chain };
      there = there;
      set = refl;
      stamp = refl;
      rows = c.append.ensures.items;
    }
