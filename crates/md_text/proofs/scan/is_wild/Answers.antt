use Rattle.std.proofs.Common.{rules, sym, ◌∙◌, ap, chars, map}
use Rattle.std.specs.Prelude.{encode_utf8_all}
use Rattle.std.proofs.lemmas.Str.{encodes-chars}
use Rattle.md_text.specs.Wild.{wild}
use Rattle.md_text.proofs.Bytes.{wild-encodes}
use Rattle.md_text.proofs.scan.is_wild.Goals as goal

pub returns : goal.returns
returns c =
    let text = c.args.text.now in
    let pieces = c.args.pieces.now in
    c.are_wild_bytes.ensures ∙ ap (wild (map encode_utf8_all pieces)) (c.as_bytes.ensures.value ∙ sym (encodes-chars text (search rules)))
    ∙ wild-encodes pieces (chars text)
