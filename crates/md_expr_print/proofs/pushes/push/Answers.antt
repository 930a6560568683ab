use Rattle.std.proofs.Common.{rules, ◌≡◌, ◌++◌, string_bytes}
use Rattle.std.specs.Char.{encode_utf8}
use Rattle.std.proofs.lemmas.Str.{IsUtf8-string_bytes}
use Rattle.md_expr_print.proofs.Appended.{appended, one_char}
use Rattle.md_expr_print.proofs.pushes.push.Goals as goal

pub returns : goal.returns
returns c =
    let e : string_bytes c.push.new.self ≡ string_bytes c.args.out.now ++ encode_utf8 c.args.c = search rules in
    appended (string_bytes c.args.out.now) (string_bytes c.push.new.self) _ _ (IsUtf8-string_bytes c.args.out.now) e (one_char c.args.c c.ranges.c.0)
