use Rattle.std.proofs.Common.{rules, ◌≡◌, ◌<◌, ◌^◌, ◌++◌, string_bytes, arith}
use Rattle.std.specs.Fmt.{decimal}
use Rattle.std.proofs.lemmas.Fmt.{IsAscii-decimal_wide}
use Rattle.std.proofs.lemmas.Str.{IsUtf8-string_bytes, chars-IsAscii}
use Rattle.md_expr_print.proofs.Appended.{appended}
use Rattle.md_expr_print.proofs.pushes.push_number.Goals as goal

pub returns : goal.returns
returns c =
    let e : string_bytes c.write.new.self ≡ string_bytes c.args.out.now ++ decimal c.args.n = search rules in
    let small : c.args.n < 10 ^ 64 = omega (arith, c.ranges.n) in
    appended (string_bytes c.args.out.now) (string_bytes c.write.new.self) _ _ (IsUtf8-string_bytes c.args.out.now) e (chars-IsAscii _ (IsAscii-decimal_wide c.args.n small))
