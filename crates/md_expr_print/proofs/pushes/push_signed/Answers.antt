use Rattle.std.proofs.Common.{rules, ◌≡◌, ◌++◌, string_bytes}
use Rattle.std.specs.Fmt.{signed_decimal}
use Rattle.std.specs.Str.{IsAscii}
use Rattle.std.proofs.lemmas.Fmt.{IsAscii-signed}
use Rattle.std.proofs.lemmas.Str.{IsUtf8-string_bytes, chars-IsAscii}
use Rattle.md_expr_print.proofs.Appended.{appended}
use Rattle.md_expr_print.proofs.pushes.push_signed.Goals as goal

pub returns : goal.returns
returns c =
    let e : string_bytes c.write.new.self ≡ string_bytes c.args.out.now ++ signed_decimal c.args.n = search rules in
    let ascii : IsAscii (signed_decimal c.args.n) = search (rules, IsAscii-signed) in
    appended (string_bytes c.args.out.now) (string_bytes c.write.new.self) _ _ (IsUtf8-string_bytes c.args.out.now) e (chars-IsAscii (signed_decimal c.args.n) ascii)
