use Rattle.std.proofs.Common.{◌+◌, ◌++◌, ◌∷◌, drop, sym, ap, ◌∙◌, append_assoc, append-nil}
use Rattle.std.proofs.lemmas.List.{at_drop_more, at_drop_all}
use Rattle.ucd_case.specs.CaseFolding.{full_fold}
use Rattle.caseless.specs.Caseless.{default_case_fold}
use Rattle.caseless.proofs.CaselessLemmas.{default_case_fold-nil, default_case_fold-cons}
use Rattle.md_text.proofs.characters.push_all_folded.Goals as goal

pub loop-character-preserved : goal.loop-character-preserved
loop-character-preserved c =
    let cs = c.args.characters.now in
    let i = c.loop-character.character-index in
    ap (λ l. l ++ default_case_fold (drop (i + 1) cs)) c.in_ok-push_folded.ensures ∙ append_assoc c.loop-character.made.items (full_fold c.character-item.result) _
    ∙ ap (λ l. c.loop-character.made.items ++ l) (sym (default_case_fold-cons c.character-item.result _) ∙ (ap (λ x. default_case_fold (x ∷ drop (i + 1) cs)) c.character-item.is ∙ sym (at_drop_more default_case_fold cs i c.character-item.result c.loop-character-test.true))) ∙ c.loop-character.invariant

pub returns : goal.returns
returns c =
    sym (append-nil _) ∙ ap (λ l. c.loop-character.made.items ++ l) (sym (at_drop_all default_case_fold c.args.characters.now c.loop-character.character-index c.loop-character-test.false ∙ default_case_fold-nil)) ∙ c.loop-character.invariant
