-- The text of no characters.
use Rattle.std.proofs.Common.{◌≡◌, ℕ, List, [], chars, ◌∙◌, ap}
use Rattle.std.proofs.lemmas.Str.{chars-nil}

pub no_characters : (text : List ℕ) → text ≡ [] → chars text ≡ []
no_characters text e = ap chars e ∙ chars-nil
