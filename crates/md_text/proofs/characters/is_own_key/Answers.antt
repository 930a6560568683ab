use Rattle.std.proofs.lemmas.Bool.{MatchBool-at_true}
use Rattle.md_text.proofs.Ascii.{own-key}
use Rattle.md_text.proofs.characters.is_own_key.Goals as goal

pub returns-then-not-fold : goal.returns-then-not-fold
returns-then-not-fold c =
    λ marks is. own-key c.args.fold marks c.args.text.now c.if-not-fold.true (MatchBool-at_true _ _ is c.is_ascii.ensures.cases)
