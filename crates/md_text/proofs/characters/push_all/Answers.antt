use Rattle.std.proofs.Common.{◌∷◌, [], ◌++◌, take, string_bytes, append-nil, append_assoc, sym, ap, ◌∙◌}
use Rattle.std.specs.Prelude.{encode_utf8_all, encode_utf8}
use Rattle.std.proofs.lemmas.List.{take_all, take_more}
use Rattle.std.proofs.lemmas.Str.{encodes-append}
use Rattle.md_text.proofs.characters.push_all.Goals as goal

pub loop-character-preserved : goal.loop-character-preserved
loop-character-preserved c =
    let cs = c.args.characters.now in
    let i = c.loop-character.character-index in
    let x = c.character-item.result in
    let before = string_bytes c.args.text.now in
    c.in_ok-push.ensures.bytes ∙ ap (λ l. l ++ encode_utf8 x) c.loop-character.invariant ∙ append_assoc before (encode_utf8_all (take i cs)) (encode_utf8 x)
    ∙ ap (λ l. before ++ l) (sym (ap encode_utf8_all (take_more cs i x c.loop-character-test.true ∙ ap (λ y. take i cs ++ y ∷ []) (sym c.character-item.is)) ∙ encodes-append (take i cs) (x ∷ []) ∙ ap (λ l. encode_utf8_all (take i cs) ++ l) (append-nil (encode_utf8 x))))

pub returns : goal.returns
returns c =
    let cs = c.args.characters.now in
    c.loop-character.invariant ∙ ap (λ l. string_bytes c.args.text.now ++ encode_utf8_all l) (take_all c.loop-character.character-index cs c.loop-character-test.false)
