use Rattle.std.proofs.Common.{rules, ◌≡◌, [], ◌≤◌}
use Rattle.md_pages.proofs.Pages.{page_more}
use Rattle.md_pages.proofs.paged.add_pages.Goals as goal

pub loop-preserved : goal.loop-preserved
loop-preserved c =
    let pages = c.loop.pages.items in
    let page = c.in_ok-page.page in
    let none : page.items ≡ [] = search rules in
    let room : 1024 ≤ page.capacity = search rules in
    let more = page_more pages page c.loop.invariant.0 none room in
    search rules
