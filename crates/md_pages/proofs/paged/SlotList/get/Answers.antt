use Rattle.std.proofs.Common.{rules, ◌≡◌, ◌<◌, ◌≤◌, ◌/◌, ◌%◌, length, refl, subst, arith}
use Rattle.std.specs.Prelude.{Some, None, slice_get}
use Rattle.std.proofs.lemmas.Nat.{div-add-mod'}
use Rattle.std.proofs.lemmas.Option.{slice_get_read, slice_get_past}
use Rattle.md_pages.specs.Pages.{slots_in}
use Rattle.md_pages.proofs.Pages.{in_page, no_page}
use Rattle.md_pages.proofs.paged.SlotList.get.Goals as goal

pub returns-in-Some : goal.returns-in-Some
returns-in-Some c =
    let pages = c.self.inside.pages.items in
    let place = c.args.place in
    let page = c.in-Some.page.now in
    let within : place / 1024 < length pages = search rules in
    let there : slice_get pages (place / 1024) ≡ Some page = slice_get_read pages (length pages) (place / 1024) page refl within (search rules) in
    let at : slice_get (slots_in pages) place ≡ slice_get page.items (place % 1024) =
    subst (λ n. slice_get (slots_in pages) n ≡ slice_get page.items (place % 1024)) (div-add-mod' place 1024) (in_page pages page (place / 1024) (place % 1024) (omega arith) c.self.invariant.0 there) in
    search rules

pub returns-in-None : goal.returns-in-None
returns-in-None c =
    let pages = c.self.inside.pages.items in
    let place = c.args.place in
    let past : length pages ≤ place / 1024 = search rules in
    let none = no_page pages (place / 1024) (place % 1024) c.self.invariant.0 (slice_get_past pages (place / 1024) past) in
    let at : slice_get (slots_in pages) place ≡ None = subst (λ n. slice_get (slots_in pages) n ≡ None) (div-add-mod' place 1024) none in
    search rules
