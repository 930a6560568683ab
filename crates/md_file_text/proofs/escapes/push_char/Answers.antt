use Rattle.std.proofs.Common.{◌≡◌, false, arith, string_bytes}
use Rattle.std.proofs.lemmas.Bool.Decides.{nat_tests}
use Rattle.std.specs.Prelude.{encode_utf8}
use Rattle.md_file_text.proofs.Plain.{is_special, plain_char}
use Rattle.md_file_text.proofs.Pushed.{pushed}
use Rattle.md_file_text.proofs.escapes.push_char.Goals as goal

pub returns-in_default : goal.returns-in_default
returns-in_default c =
    let plain : is_special c.args.c ≡ false = grind (arith, nat_tests) in
    rw (plain_char c.args.c plain) (pushed _ _ (string_bytes c.args.text.now) (encode_utf8 c.args.c) c.push.ensures.bytes)
