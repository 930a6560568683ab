-- The prefix of a text.
use Rattle.std.specs.Prelude.{ℕ, Bool, false, ◌==◌, if◌then◌else◌, List, [], ◌∷◌, Option, Some, None}
use Rattle.md_expr_tree.specs.declared.token.Token.{Token}

-- a token, and what follows it
abbrev pub ScannedToken : Type 0
ScannedToken = Option (Token × List ℕ)

-- the characters of the class at the beginning, and the rest
abbrev pub prefix : (ℕ → Bool) → List ℕ → List ℕ × List ℕ
prefix class [] = ([], [])
prefix class (c ∷ cs) = if class c then (c ∷ (prefix class cs).0, (prefix class cs).1) else ([], c ∷ cs)

-- the text begins with a character of the class
abbrev pub begins : (ℕ → Bool) → List ℕ → Bool
begins class [] = false
begins class (c ∷ cs) = class c

-- what follows the text's beginning, if it begins so
abbrev pub after : List ℕ → List ℕ → Option (List ℕ)
after [] text = Some text
after (p ∷ ps) [] = None
after (p ∷ ps) (c ∷ cs) = if c == p then after ps cs else None
