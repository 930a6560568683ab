use Rattle.std.proofs.Common.{◌≡◌, ◌^◌, ◌≤◌, vec_len}
use Rattle.md_pages.specs.Pages.{slots_in, ArePages}
use Rattle.md_pages.proofs.paged.add_pages.Given as goal

-- as many pages as were counted, with the same slots
abbrev pub invariant-loop : goal.invariant-loop
invariant-loop l = ArePages l.pages.items × (slots_in l.pages.items ≡ slots_in l.initial.pages.items) × (vec_len l.pages ≡ l.counter) × (vec_len l.initial.pages ≤ vec_len l.pages) × (vec_len l.pages ≤ 2 ^ 52)
