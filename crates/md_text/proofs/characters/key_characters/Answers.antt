use Rattle.std.proofs.Common.{◌≡◌, chars, sym, ap, ◌∙◌, map, cond, IsAscii}
use Rattle.std.specs.Char.{to_ascii_lowercase}
use Rattle.std.proofs.lemmas.Str.{chars-IsAscii}
use Rattle.md_text.specs.Key.{key}
use Rattle.md_text.proofs.Ascii.{key-ascii, All-IsAscii}
use Rattle.md_text.proofs.characters.key_characters.Goals as goal

pub returns-then-is_ascii : goal.returns-then-is_ascii
returns-then-is_ascii c =
    let text = c.args.text.now in
    let ascii : IsAscii text = c.if-is_ascii.ensures.cases in
    let same : key c.args.fold c.args.marks (chars text) ≡ cond c.args.fold (map to_ascii_lowercase c.as_bytes.result.now) c.as_bytes.result.now =
    ap (key c.args.fold c.args.marks) (chars-IsAscii text ascii) ∙ key-ascii c.args.fold c.args.marks text (All-IsAscii text ascii)
    ∙ ap (λ bs. cond c.args.fold (map to_ascii_lowercase bs) bs) (sym c.as_bytes.ensures.value) in
    rw same c.ascii_key.ensures
