use Rattle.std.proofs.Common.{◌≡◌, ◌+◌, ◌++◌, drop}
use Rattle.std.specs.Prelude.{string_bytes}
use Rattle.md_render.specs.Texts.{journal_text}
use Rattle.md_journal.specs.Printing.{entries_in}
use Rattle.md_journal.proofs.text.push_journal.Given as goal

abbrev pub invariant-loop-entry : goal.invariant-loop-entry
invariant-loop-entry l =
    record {
      next : l.place ≡ l.entry-index + 1;
      so : string_bytes l.text ++ journal_text l.place (entries_in (drop l.entry-index l.journal)) ≡ string_bytes l.initial.text ++ journal_text 1 (entries_in l.journal);
    }
