use Rattle.std.proofs.Common.{◌+◌, ◌++◌, ◌∷◌, drop, flat_map, sym, ap, ◌∙◌, append_assoc, append-nil}
use Rattle.std.proofs.lemmas.List.{at_drop_more, at_drop_all}
use Rattle.unicode_normalization.specs.Decompose.{decompose}
use Rattle.unicode_normalization.specs.Forms.{Nfd}
use Rattle.md_text.proofs.characters.push_all_decomposed.Goals as goal

pub loop-character-preserved : goal.loop-character-preserved
loop-character-preserved c =
    let F = flat_map (decompose Nfd) in
    let cs = c.args.characters.now in
    let i = c.loop-character.character-index in
    let x = c.character-item.result in
    let made = c.loop-character.made.items in
    let grown = c.in_ok-push_few.ensures ∙ ap (λ l. made ++ l) c.decomposition.ensures.value in
    ap (λ l. l ++ F (drop (i + 1) cs)) grown ∙ append_assoc made (decompose Nfd x) (F (drop (i + 1) cs))
    ∙ ap (λ l. made ++ l) (ap (λ y. F (y ∷ drop (i + 1) cs)) c.character-item.is ∙ sym (at_drop_more F cs i x c.loop-character-test.true)) ∙ c.loop-character.invariant

pub returns : goal.returns
returns c =
    let F = flat_map (decompose Nfd) in
    sym (append-nil _) ∙ ap (λ l. c.loop-character.made.items ++ l) (sym (at_drop_all F c.args.characters.now c.loop-character.character-index c.loop-character-test.false)) ∙ c.loop-character.invariant
