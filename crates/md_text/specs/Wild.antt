-- What a pattern of pieces matches.
use Rattle.std.specs.Prelude.{◌≡◌, ℕ, ◌+◌, Bool, false, ◌&&◌, ◌||◌, nat_eq, List, [], ◌∷◌, ◌++◌, length, drop, bytes_eq}
use Rattle.std.specs.List.{starts_with}

-- the first piece, the first text between, the second piece, and so on
abbrev pub interleaved : (pieces between : List (List ℕ)) → List ℕ
interleaved [] between = []
interleaved (p ∷ ps) [] = p
interleaved (p ∷ ps) (t ∷ ts) = p ++ (t ++ interleaved ps ts)

-- there are texts between the pieces, one fewer than these, that make the text of them
abbrev pub IsMatch : List (List ℕ) → List ℕ → Type 0
IsMatch pieces text =
    (between : List (List ℕ)) × (length between + 1 ≡ length pieces) × (text ≡ interleaved pieces between)

-- the text or an end of it passes the test
abbrev pub some_end : (List ℕ → Bool) → List ℕ → Bool
some_end test [] = test []
some_end test (c ∷ cs) = test (c ∷ cs) || some_end test cs

-- `IsMatch` as a test
unfoldable pub wild : List (List ℕ) → List ℕ → Bool
wild [] text = false
wild (p ∷ []) text = bytes_eq text p
wild (p ∷ q ∷ ps) text = starts_with nat_eq text p && some_end (wild (q ∷ ps)) (drop (length p) text)
