use Rattle.std.proofs.Common.{rules, ◌≡◌, ◌<◌, length, ap}
use Rattle.std.specs.List.{remove}
use Rattle.std.proofs.lemmas.List.Edits.{length-remove}
use Rattle.md_pages.specs.Pages.{slots_in}
use Rattle.md_pages.proofs.Pages.{most_slots}
use Rattle.md_pages.proofs.paged.SlotList.remove.Goals as goal

pub returns-clause-room : goal.returns-clause-room
returns-clause-room c lt =
    let slots = slots_in c.self.inside.pages.items in
    let within : c.args.place < length slots = search rules in
    let one = length-remove slots c.args.place within in
    let left : length (slots_in c.take_out.new.pages.items) ≡ length (remove slots c.args.place) = ap length c.take_out.ensures.slots in
    let most = most_slots c.self.inside.pages.items c.self.invariant.0 in
    search (rules, one, left, most)
