-- The escapes of paths and contents.
use Rattle.std.specs.Prelude.{◌≡◌, ℕ, ◌==◌, Bool, true, false, if◌then◌else◌, List, [], ◌∷◌, Option, Some, None}
use Rattle.std.specs.Option.{option_map, option_and_then}
use Rattle.md_script.specs.declared.escapes.Act.{Act}
use Rattle.md_script.specs.declared.escapes.Act.TheVariants as act

-- the byte that stands for itself after a backslash: `\s \t \n \r \\` are a space, a tab, a line feed, a carriage return and a backslash
unfoldable pub escaped_byte : ℕ → Option ℕ
escaped_byte b =
    if b == 115 then Some 32 else (if b == 116 then Some 9 else (if b == 110 then Some 10 else (if b == 114 then Some 13 else (if b == 92 then Some 92 else None))))

-- the text that is written so, where each backslash begins an escape; or, after a backslash, what its escape and the text stand for
abbrev pub unescaped_after : Bool → List ℕ → Option (List ℕ)
unescaped_after false [] = Some []
unescaped_after true [] = None
unescaped_after false (b ∷ bs) = if b == 92 then unescaped_after true bs else option_map (λ t. b ∷ t) (unescaped_after false bs)
unescaped_after true (b ∷ bs) = option_and_then (λ c. option_map (λ t. c ∷ t) (unescaped_after false bs)) (escaped_byte b)

unfoldable pub unescaped : List ℕ → Option (List ℕ)
unescaped text = unescaped_after false text

-- what a byte does, behind a backslash or not, to whatever follows it
abbrev pub Acts : Bool → ℕ → Act → Type 0
Acts escaping b act.Escape = (bs : List ℕ) → unescaped_after escaping (b ∷ bs) ≡ unescaped_after true bs
Acts escaping b (act.Add c) = (bs : List ℕ) → unescaped_after escaping (b ∷ bs) ≡ option_map (λ t. c ∷ t) (unescaped_after false bs)
Acts escaping b act.Fail = (bs : List ℕ) → unescaped_after escaping (b ∷ bs) ≡ None
