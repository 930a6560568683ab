use Rattle.std.proofs.Common.{rules, ◌≡◌, ◌∷◌, sym, ◌∙◌, ap, subst}
use Rattle.std.specs.List.{remove}
use Rattle.md_pages.specs.Pages.{slots_in, ArePages}
use Rattle.md_pages.proofs.Pages.{removed_later}
use Rattle.md_pages.proofs.paged.+remove_in.Goals as goal

pub returns-then-place-ge-PAGE-clause-slots : goal.returns-then-place-ge-PAGE-clause-slots
returns-then-place-ge-PAGE-clause-slots n c =
    let page = c.in_ok-pages.page.now in
    let pages = c.in_ok-pages.rest.now in
    let parts : c.args.pages.now ≡ page ∷ pages = search rules in
    let h = subst ArePages parts c.requires in
    (removed_later page pages c.remove_in.new.pages c.args.place h (search rules) c.remove_in.ensures.pages c.remove_in.ensures.slots).1 ∙ ap (λ all. remove (slots_in all) c.args.place) (sym parts)
