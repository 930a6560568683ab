-- Strings at the beginning of a text.
use Rattle.std.specs.Prelude.{ℕ, ◌==◌, Bool, true, false, if◌then◌else◌, List, [], ◌∷◌, ◌++◌, Option, Some, None}
use Rattle.std.specs.Option.{option_map, option_and_then}
use Rattle.md_value.specs.Name.{is_name_part}
use Rattle.md_expr_tree.specs.declared.tree.Literal.TheVariants as literal
use Rattle.md_expr_tree.specs.declared.token.Token.TheVariants as token
use Rattle.md_expr_tree.specs.Classes.{is_escapable}
use Rattle.md_expr_lex.specs.declared.strings.Act.{Act}
use Rattle.md_expr_lex.specs.declared.strings.Act.TheVariants as act
use Rattle.md_expr_lex.specs.Prefix.{ScannedToken, begins}

-- the character before the first piece
abbrev pub with_prefix : ℕ → List (List ℕ) → List (List ℕ)
with_prefix c [] = []
with_prefix c (p ∷ ps) = (c ∷ p) ∷ ps

-- pieces, and what follows their string
abbrev pub Body : Type 0
Body = Option (List (List ℕ) × List ℕ)

-- the pieces up to the quote q, and what follows it; or after a `\`
abbrev pub body_at : Bool → ℕ → List ℕ → Body
body_at escaping q [] = None
body_at true q (c ∷ cs) = if is_escapable c then option_map (λ x. (with_prefix c x.0, x.1)) (body_at false q cs) else None
body_at false q (c ∷ cs) =
    if c == q then Some ([] ∷ [], cs) else (if c == 92 then body_at true q cs else (if c == 42 then option_map (λ x. ([] ∷ x.0, x.1)) (body_at false q cs) else option_map (λ x. (with_prefix c x.0, x.1)) (body_at false q cs)))

abbrev pub words : List (List ℕ) → Bool → Bool → List ℕ → ScannedToken
words pieces fold marks rest = if begins is_name_part rest then None else Some (token.Value (literal.Words pieces fold marks), rest)

abbrev pub after_c : List (List ℕ) → List ℕ → ScannedToken
after_c pieces [] = words pieces true false []
after_c pieces (c ∷ cs) = if c == 100 then words pieces true true cs else words pieces true false (c ∷ cs)

abbrev pub after_d : List (List ℕ) → List ℕ → ScannedToken
after_d pieces [] = words pieces false true []
after_d pieces (c ∷ cs) = if c == 99 then words pieces true true cs else words pieces false true (c ∷ cs)

-- the string with its modifiers
abbrev pub modified : List (List ℕ) → List ℕ → ScannedToken
modified pieces [] = words pieces false false []
modified pieces (c ∷ cs) = if c == 99 then after_c pieces cs else (if c == 100 then after_d pieces cs else words pieces false false (c ∷ cs))

abbrev pub string_at : ℕ → List ℕ → ScannedToken
string_at q text = option_and_then (λ x. modified x.0 x.1) (body_at false q text)

-- what a character between quotes does
abbrev pub act_of : Bool → ℕ → ℕ → Act
act_of true q c = if is_escapable c then act.Add else act.Fail
act_of false q c = if c == q then act.End else (if c == 92 then act.Escape else (if c == 42 then act.Wildcard else act.Add))

-- the first part of the first piece before it
abbrev pub onto : List ℕ → List (List ℕ) → List (List ℕ)
onto last [] = []
onto last (p ∷ ps) = (last ++ p) ∷ ps

-- the pieces that were read before, the first part of the next one, and what is read of the rest
abbrev pub glue : List (List ℕ) → List ℕ → Body → Body
glue before last o = option_map (λ x. (before ++ onto last x.0, x.1)) o
