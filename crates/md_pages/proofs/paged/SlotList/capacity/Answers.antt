use Rattle.std.proofs.Common.{rules}
use Rattle.md_pages.proofs.Pages.{most_slots}
use Rattle.md_pages.proofs.paged.SlotList.capacity.Goals as goal

pub returns-clause-most : goal.returns-clause-most
returns-clause-most c = let most = most_slots c.self.inside.pages.items c.self.invariant.0 in search (rules, most)
