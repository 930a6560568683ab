-- The options of `mdfind`.
use Rattle.std.specs.Prelude.{ℕ, true, false, not, if◌then◌else◌, List, [], ◌∷◌, codes, bytes_eq, Option, Some, None, is_some}
use Rattle.std.specs.Option.{option_map, option_and_then}
use Rattle.md_words.specs.declared.command.Mode.TheVariants as mode
use Rattle.md_words.specs.declared.find.FindWord.{FindWord}
use Rattle.md_words.specs.declared.find.FindWord.TheVariants as find
use Rattle.md_words.specs.declared.find.FindOptions.{FindOptions}
use Rattle.md_words.specs.Words.{begins_with_dash, path_of}

-- an option of one word
unfoldable pub flag_of : List ℕ → Option FindWord
flag_of word =
    if bytes_eq word (codes "-0") then Some find.Zero
    else (if bytes_eq word (codes "-count") then Some find.Count
    else (if bytes_eq word (codes "-literal") then Some (find.Mode mode.Literal)
    else (if bytes_eq word (codes "-interpret") then Some (find.Mode mode.Plain)
    else None)))

-- the options at the beginning of the words, and the words that follow them
abbrev pub Read : Type 0
Read = List FindWord × List (List ℕ)

-- with one option more before
abbrev pub before : FindWord → Option Read → Option Read
before word read = option_map (λ r. (word ∷ r.0, r.1)) read

-- which word comes next: an option or the first word after the options, the DIR of `-onlyin`, or the TEXT of `-name`
pub data Next : Type 0 where
  option : Next
  dir : Next
  text : Next

-- `{ "-0" | "-count" | "-onlyin" DIR | "-name" TEXT | "-literal" | "-interpret" } [ "--" ]`, from the word that comes next
-- the options end at `--` or at the first word that does not begin with `-`, and a word that begins so and is no option is refused
abbrev pub read_from : Next → List (List ℕ) → Option Read
read_from option [] = Some ([], [])
read_from option (word ∷ words) =
    if bytes_eq word (codes "--") then Some ([], words)
    else (if not (begins_with_dash word) then Some ([], word ∷ words)
    else (if bytes_eq word (codes "-onlyin") then read_from dir words
    else (if bytes_eq word (codes "-name") then read_from text words
    else option_and_then (λ flag. before flag (read_from option words)) (flag_of word))))
read_from dir [] = None
read_from dir (word ∷ words) = option_and_then (λ scope. before (find.OnlyIn scope) (read_from option words)) (path_of word)
read_from text [] = None
read_from text (word ∷ words) = before (find.Name word) (read_from option words)

abbrev pub no_options : FindOptions
no_options = record { zero = false; count = false; scope = None; name = None; mode = None }

-- what options say with one more, unless one of its kind stands: `-literal` and `-interpret` are of one kind
abbrev pub with_option : FindWord → FindOptions → Option FindOptions
with_option find.Zero o = if o.zero then None else Some (record o { zero = true })
with_option find.Count o = if o.count then None else Some (record o { count = true })
with_option (find.OnlyIn scope) o = if is_some o.scope then None else Some (record o { scope = Some scope })
with_option (find.Name name) o = if is_some o.name then None else Some (record o { name = Some name })
with_option (find.Mode mode) o = if is_some o.mode then None else Some (record o { mode = Some mode })

-- what options say together, where no two of them are of one kind
abbrev pub together : List FindWord → Option FindOptions
together [] = Some no_options
together (word ∷ words) = option_and_then (with_option word) (together words)

-- what the options at the beginning of the words say, and the words that follow; None where they are not in the grammar
unfoldable pub find_options_of : List (List ℕ) → Option (FindOptions × List (List ℕ))
find_options_of words = option_and_then (λ read. option_map (λ options. (options, read.1)) (together read.0)) (read_from option words)
