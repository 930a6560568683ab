use Rattle.std.proofs.Common.{rules, ◌≡◌, ◌++◌, string_bytes}
use Rattle.std.specs.Char.{encode_utf8}
use Rattle.std.proofs.lemmas.Str.{IsUtf8-string_bytes}
use Rattle.md_expr_lex.proofs.Spellings.{pushed}
use Rattle.md_expr_lex.proofs.prefix.push.Goals as goal

pub returns : goal.returns
returns c =
    let e : string_bytes c.push.new.self ≡ string_bytes c.args.text.now ++ encode_utf8 c.args.c = search rules in
    pushed (string_bytes c.args.text.now) (string_bytes c.push.new.self) c.args.c (IsUtf8-string_bytes c.args.text.now) c.ranges.c.0 e
