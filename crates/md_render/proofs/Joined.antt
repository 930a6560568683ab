-- The text of a journal made of two.
use Rattle.std.proofs.Common.{◌≡◌, ℕ, suc, ◌+◌, List, [], ◌∷◌, ◌++◌, length, sym, ◌∙◌, ap, arith, append_assoc}
use Rattle.md_machine.specs.declared.Event.{Event}
use Rattle.md_machine.specs.declared.Reply.{Reply}
use Rattle.md_render.specs.Texts.{entry_text, journal_text}

pub journal_text-append : (place : ℕ) (xs ys : List (Event × Reply)) → journal_text place (xs ++ ys) ≡ journal_text place xs ++ journal_text (place + length xs) ys
journal_text-append place [] ys = ap (λ p. journal_text p ys) (omega arith)
journal_text-append place (x ∷ xs) ys =
    let next : place + 1 + length xs ≡ place + suc (length xs) = omega arith in
    ap (λ rest. entry_text place x.0 x.1 ++ rest) (journal_text-append (place + 1) xs ys ∙ ap (λ p. journal_text (place + 1) xs ++ journal_text p ys) next)
    ∙ sym (append_assoc (entry_text place x.0 x.1) (journal_text (place + 1) xs) (journal_text (place + suc (length xs)) ys))
