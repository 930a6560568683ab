use Rattle.std.proofs.Common.{◌≡◌, ◌==◌, false, arith}
use Rattle.std.proofs.lemmas.Bool.Decides.{nat_tests}
use Rattle.md_file_text.proofs.Plain.{unquoted_char}
use Rattle.md_file_text.proofs.escapes.push_quoted_char.Goals as goal

pub returns-in_default : goal.returns-in_default
returns-in_default c =
    let other : (c.args.c == 34) ≡ false = grind (arith, nat_tests) in
    rw (unquoted_char c.args.c other) c.push_char.ensures
