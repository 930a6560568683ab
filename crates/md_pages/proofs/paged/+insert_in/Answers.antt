use Rattle.std.proofs.Common.{rules, ◌≡◌, ◌∷◌, insert, length, sym, ◌∙◌, ap, subst}
use Rattle.md_pages.specs.Pages.{slots_in, ArePages}
use Rattle.md_pages.proofs.Pages.{inserted_later}
use Rattle.md_pages.proofs.paged.+insert_in.Goals as goal

pub returns-then-place-ge-PAGE-clause-slots : goal.returns-then-place-ge-PAGE-clause-slots
returns-then-place-ge-PAGE-clause-slots n c =
    let page = c.in-Some.page.now in
    let pages = c.in-Some.rest.now in
    let parts : c.args.pages.now ≡ page ∷ pages = search rules in
    let h = subst ArePages parts c.requires.pages in
    let most = h.1 in
    let full : length page.items ≡ 1024 = search rules in
    (inserted_later page pages c.insert_in.new.pages c.args.place h c.args.slot full (search rules) c.insert_in.ensures.pages c.insert_in.ensures.slots).1 ∙ ap (λ all. insert (slots_in all) c.args.place c.args.slot) (sym parts)
