use Rattle.std.proofs.Common.{rules, ◌≡◌, ◌++◌, string_bytes, ap, ◌∙◌}
use Rattle.std.specs.Prelude.{chars}
use Rattle.std.proofs.lemmas.Str.{IsUtf8-string_bytes, chars-append}
use Rattle.md_match.proofs.wanted.push_text.Goals as goal

pub returns : goal.returns
returns c =
    let e : string_bytes c.push_str.new.self ≡ string_bytes c.args.text.now ++ c.args.more.now = search rules in
    ap chars e ∙ chars-append (string_bytes c.args.text.now) c.args.more.now (IsUtf8-string_bytes c.args.text.now)
