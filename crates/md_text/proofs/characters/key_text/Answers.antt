use Rattle.std.proofs.Common.{string_bytes}
use Rattle.std.proofs.lemmas.Result.{IfOk-weaker}
use Rattle.md_text.proofs.Ascii.{lowered-key}
use Rattle.md_text.proofs.characters.key_text.Goals as goal

pub returns-then-is_ascii : goal.returns-then-is_ascii
returns-then-is_ascii c =
    IfOk-weaker c.to_ascii_lowercase.result _ _ (λ made is. lowered-key c.args.fold c.args.marks c.args.text.now (string_bytes made) c.if-fold.true c.if-is_ascii.ensures.cases is) c.to_ascii_lowercase.ensures.ok
