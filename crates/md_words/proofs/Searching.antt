-- Options of `mdfind` that were read before, and what the next words say.
use Rattle.std.proofs.Common.{◌≡◌, ℕ, List, [], ◌∷◌, Option, Some, refl, ap, ◌∙◌, arith}
use Rattle.std.specs.Option.{option_map, option_and_then}
use Rattle.md_words.specs.declared.find.FindWord.{FindWord}
use Rattle.md_words.specs.declared.find.FindOptions.{FindOptions}
use Rattle.md_words.specs.Find.{Read, before, read_from, option, no_options, with_option, together, find_options_of}

-- what options say after those that were read before
abbrev pub with_all : FindOptions → List FindWord → Option FindOptions
with_all o [] = Some o
with_all o (w ∷ ws) = option_and_then (λ p. with_all p ws) (with_option w o)

-- what is read after options that were read before
abbrev pub read_on : FindOptions → Option Read → Option (FindOptions × List (List ℕ))
read_on o read = option_and_then (λ r. option_map (λ p. (p, r.1)) (with_all o r.0)) read

-- two options say the same in either order
swapped : (v w : FindWord) (o : FindOptions) → option_and_then (with_option v) (with_option w o) ≡ option_and_then (with_option w) (with_option v o)
swapped v w o = grind arith

-- an option may be taken in after those that follow it
later : (w : FindWord) (ws : List FindWord) (o : FindOptions) → option_and_then (λ p. with_all p ws) (with_option w o) ≡ option_and_then (with_option w) (with_all o ws)
later w [] o = grind arith
later w (v ∷ vs) o = grind (arith, swapped v w o, later w vs)

all_together : (ws : List FindWord) → with_all no_options ws ≡ together ws
all_together [] = refl
all_together (w ∷ ws) = later w ws no_options ∙ ap (option_and_then (with_option w)) (all_together ws)

-- where no option was read before
pub read_all : (words : List (List ℕ)) → read_on no_options (read_from option words) ≡ find_options_of words
unfolding find_options_of
read_all words = grind (arith, all_together)

-- an option before others is taken in first
pub read_before : (o : FindOptions) (w : FindWord) (read : Option Read) → read_on o (before w read) ≡ option_and_then (λ p. read_on p read) (with_option w o)
read_before o w read = grind arith
