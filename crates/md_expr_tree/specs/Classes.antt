-- Classes of characters.
use Rattle.std.specs.Prelude.{◌≡◌, ℕ, Bool, false, ◌||◌, ◌==◌, List, [], ◌∷◌}

-- a space, a tab, a line feed or a carriage return
abbrev pub is_blank : ℕ → Bool
is_blank c = ((c == 32 || c == 9) || c == 10) || c == 13

-- `"` or `'`
abbrev pub is_quote : ℕ → Bool
is_quote c = c == 34 || c == 39

-- `"`, `'`, `\` or `*`
abbrev pub is_escapable : ℕ → Bool
is_escapable c = ((c == 34 || c == 39) || c == 92) || c == 42

-- the text does not begin with a character of the class
abbrev pub BeginsWithNo : (ℕ → Bool) → List ℕ → Type 0
BeginsWithNo class [] = Unit {0}
BeginsWithNo class (c ∷ cs) = class c ≡ false
