use Rattle.std.proofs.Common.{rules, ◌≡◌, ◌++◌, string_bytes}
use Rattle.std.proofs.lemmas.Str.{IsUtf8-string_bytes}
use Rattle.md_expr_print.proofs.Appended.{appended, ascii_chars}
use Rattle.md_expr_print.proofs.pushes.push_str.Goals as goal

pub returns : goal.returns
returns c =
    let e : string_bytes c.push_str.new.self ≡ string_bytes c.args.out.now ++ c.args.text.now = search rules in
    appended (string_bytes c.args.out.now) (string_bytes c.push_str.new.self) _ _ (IsUtf8-string_bytes c.args.out.now) e (ascii_chars c.args.text.now c.requires)
