use Rattle.std.proofs.Common.{◌≡◌, ◌<◌, [], ◌++◌, string_bytes, chars, map-id, append-nil, sym, ap, ◌∙◌, arith}
use Rattle.std.specs.Prelude.{encode_utf8_all, encode_utf8}
use Rattle.std.proofs.lemmas.Bool.Decides.{nat_tests}
use Rattle.std.proofs.lemmas.Iterator.{YieldsList-from_chars}
use Rattle.std.proofs.lemmas.Iterator.Consumers.{YieldsList-end}
use Rattle.std.proofs.lemmas.Str.{chars_from_encodes, IsUtf8-string_bytes}
use Rattle.md_text.specs.Key.{key}
use Rattle.md_text.proofs.Parts.{ascii_more, other_more}
use Rattle.md_text.proofs.characters.mixed_key.Goals as goal

pub loop-character-preserved-in-Continue-branch-3 : goal.loop-character-preserved-in-Continue-branch-3
loop-character-preserved-in-Continue-branch-3 c =
    let below : c.in-Some.character < 128 = grind (arith, nat_tests) in
    let made = c.in_ok-push.ensures.bytes ∙ ap (λ l. l ++ encode_utf8 c.ascii_character.result) c.in_ok-push_key.ensures.added
    ∙ ap (λ x. (string_bytes c.loop-character.made ++ encode_utf8_all (key c.args.fold c.args.marks c.loop-character.others.items)) ++ encode_utf8 x) c.ascii_character.ensures in
    rw (made, c.in_ok-push_key.ensures.taken) (ascii_more c.args.fold c.args.marks (string_bytes c.loop-character.made) c.loop-character.others.items c.loop-character.yielded c.in-Some.character below c.loop-character.invariant)

pub loop-character-preserved : goal.loop-character-preserved
loop-character-preserved c =
    rw c.in_ok-push-2.ensures.items (other_more c.args.fold c.args.marks (string_bytes c.loop-character.made) c.loop-character.others.items c.loop-character.yielded c.in-Some.character c.loop-character.invariant)

pub returns : goal.returns
returns c =
    let end = YieldsList-end (YieldsList-from_chars c.args.text.now c.utf8.text cc) c.loop-character.yielded _ c.loop-character.yielded_by _ _ c.in-None.is c.next.ensures.steps in
    let K = key c.args.fold c.args.marks in
    let text : c.loop-character.yielded ≡ chars c.args.text.now = sym (map-id c.loop-character.yielded) ∙ end.0 in
    let bytes : string_bytes c.push_key-2.new.text ≡ encode_utf8_all (K (chars c.args.text.now)) =
    c.in_ok-push_key-2.ensures.added ∙ ap (λ cs. string_bytes c.loop-character.made ++ encode_utf8_all (K cs)) (sym (append-nil c.loop-character.others.items))
    ∙ c.loop-character.invariant [] ∙ ap (λ cs. encode_utf8_all (K cs)) (append-nil c.loop-character.yielded ∙ text) in
    sym (chars_from_encodes (K (chars c.args.text.now)) (string_bytes c.push_key-2.new.text) (IsUtf8-string_bytes c.push_key-2.new.text) (sym bytes))
