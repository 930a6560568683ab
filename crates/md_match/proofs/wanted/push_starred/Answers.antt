use Rattle.std.proofs.Common.{◌≡◌, ◌∷◌, ◌++◌, [], lit<, ap, ◌∙◌, string_bytes, append_assoc}
use Rattle.std.specs.Prelude.{chars}
use Rattle.std.proofs.lemmas.Str.{chars-IsAscii}
use Rattle.std.proofs.lemmas.Str.Ascii.{IsAscii-cons, IsAscii-nil}
use Rattle.md_match.proofs.wanted.push_starred.Goals as goal

star : chars (42 ∷ []) ≡ 42 ∷ []
star = chars-IsAscii (42 ∷ []) (IsAscii-cons 42 [] (lit< tt) IsAscii-nil)

pub returns : goal.returns
returns c =
    let before = chars (string_bytes c.args.text.now) in
    let text = chars c.as_str.result.now in
    c.in_ok-push_text-2.ensures
    ∙ ap (λ t. t ++ text) c.in_ok-push_text.ensures
    ∙ append_assoc before (chars (42 ∷ [])) text
    ∙ ap (λ s. before ++ (s ++ text)) star
    ∙ ap (λ p. before ++ (42 ∷ p)) c.as_str.ensures.characters
