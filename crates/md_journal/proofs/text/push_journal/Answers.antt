use Rattle.std.proofs.Common.{◌+◌, ◌∷◌, ◌++◌, ◌∙◌, sym, ap, List, ℕ, drop, append_assoc, arith}
use Rattle.std.specs.Prelude.{string_bytes}
use Rattle.std.proofs.lemmas.List.{at_drop_more}
use Rattle.md_turn.specs.declared.journal.JournalEntry.{JournalEntry}
use Rattle.md_render.specs.Texts.{entry_text, journal_text}
use Rattle.md_journal.specs.Printing.{entries_in}
use Rattle.md_journal.proofs.text.push_journal.Goals as goal

pub loop-entry-preserved : goal.loop-entry-preserved
loop-entry-preserved c =
    let l = c.loop-entry in
    let journal = c.args.journal.now in
    let e = c.entry-item.result in
    let rest = drop (l.entry-index + 1) journal in
    let F : List JournalEntry → List ℕ = λ js. string_bytes l.text ++ journal_text l.place (entries_in js) in
    let next = at_drop_more F journal l.entry-index e c.loop-entry-test.true ∙ ap (λ (x : JournalEntry). F (x ∷ rest)) (sym c.entry-item.is) in
    record {
      next = omega (arith, l.invariant.next);
      so = ap (λ (made : List ℕ). made ++ journal_text (l.place + 1) (entries_in rest)) c.in_ok-push_entry.ensures
          ∙ append_assoc (string_bytes l.text) (entry_text l.place e.event e.reply) (journal_text (l.place + 1) (entries_in rest))
          ∙ sym next
          ∙ l.invariant.so;
    }
