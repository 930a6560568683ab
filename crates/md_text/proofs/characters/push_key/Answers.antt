use Rattle.std.proofs.Common.{◌≡◌, [], ◌++◌, string_bytes, append-nil, sym, ap, ◌∙◌, arith}
use Rattle.std.specs.Prelude.{encode_utf8_all}
use Rattle.std.proofs.lemmas.List.{nil_from_length}
use Rattle.std.proofs.lemmas.Bool.Decides.{nat_tests}
use Rattle.md_text.specs.Key.{key}
use Rattle.md_text.proofs.Parts.{key-nil}
use Rattle.md_text.proofs.characters.push_key.Goals as goal

pub returns-then-is_empty-clause-added : goal.returns-then-is_empty-clause-added
returns-then-is_empty-clause-added c =
    let none : c.args.characters.now.items ≡ [] = nil_from_length c.args.characters.now.items (grind (arith, nat_tests)) in
    sym (ap (λ cs. string_bytes c.args.text.now ++ encode_utf8_all (key c.args.fold c.args.marks cs)) none ∙ ap (λ cs. string_bytes c.args.text.now ++ encode_utf8_all cs) (key-nil c.args.fold c.args.marks) ∙ append-nil _)

pub returns-clause-added : goal.returns-clause-added
returns-clause-added c = c.in_ok-push_all.ensures ∙ ap (λ cs. string_bytes c.args.text.now ++ encode_utf8_all cs) (c.deref.ensures.value ∙ c.in_ok-make_key.ensures)
