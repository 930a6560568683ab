-- Texts that are written piece by piece.
use Rattle.std.proofs.Common.{◌≡◌, ℕ, List, ◌++◌, append_assoc, ap, ◌∙◌}

pub three_pieces : (old r s t a b c : List ℕ) → a ≡ old ++ r → b ≡ a ++ s → c ≡ b ++ t → c ≡ old ++ (r ++ s ++ t)
three_pieces old r s t a b c e f g = g ∙ ap (λ x. x ++ t) (f ∙ ap (λ x. x ++ s) e) ∙ simp append_assoc

pub four_pieces : (r s t u a b c d : List ℕ) → a ≡ r → b ≡ a ++ s → c ≡ b ++ t → d ≡ c ++ u → d ≡ r ++ s ++ t ++ u
four_pieces r s t u a b c d e f g h = h ∙ ap (λ x. x ++ u) (g ∙ ap (λ x. x ++ t) (f ∙ ap (λ x. x ++ s) e))
