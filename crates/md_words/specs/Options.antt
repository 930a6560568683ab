-- The options of `mdls`.
use Rattle.std.specs.Prelude.{ℕ, ◌||◌, ◌&&◌, ◌++◌, true, false, not, if◌then◌else◌, List, [], ◌∷◌, codes, bytes_eq, Option, Some, None, is_some}
use Rattle.std.specs.Option.{option_map, option_and_then, option_or}
use Rattle.md_value.specs.Name.{is_name}
use Rattle.md_words.specs.declared.options.Options.{Options}
use Rattle.md_words.specs.Words.{begins_with_dash}

-- what options say, and the words that follow them
abbrev pub Read : Type 0
Read = Options × List (List ℕ)

abbrev pub no_options : Options
no_options = record { raw = false; marker = None; names = [] }

-- `-raw` before them, where they have none
abbrev pub with_raw : Read → Option Read
with_raw read = if read.0.raw then None else Some (record { raw = true; marker = read.0.marker; names = read.0.names }, read.1)

-- `-nullMarker TEXT` before them, where they have none
abbrev pub with_marker : List ℕ → Read → Option Read
with_marker text read = if is_some read.0.marker then None else Some (record { raw = read.0.raw; marker = Some text; names = read.0.names }, read.1)

-- `-name NAME` before them
abbrev pub with_name : List ℕ → Read → Read
with_name name read = (record { raw = read.0.raw; marker = read.0.marker; names = name ∷ read.0.names }, read.1)

-- which word comes next: an option or the first word after the options, the TEXT of `-nullMarker`, or the NAME of `-name`
pub data Next : Type 0 where
  option : Next
  text : Next
  name : Next

-- `{ "-raw" | "-name" NAME | "-nullMarker" TEXT } [ "--" ]`, from the word that comes next
-- the options end at `--` or at the first word that does not begin with `-`, and a word that begins so and is no option is refused
abbrev pub options_from : Next → List (List ℕ) → Option Read
options_from option [] = Some (no_options, [])
options_from option (word ∷ words) =
    if bytes_eq word (codes "--") then Some (no_options, words)
    else (if not (begins_with_dash word) then Some (no_options, word ∷ words)
    else (if bytes_eq word (codes "-raw") then option_and_then with_raw (options_from option words)
    else (if bytes_eq word (codes "-nullMarker") then options_from text words
    else (if bytes_eq word (codes "-name") then options_from name words
    else None))))
options_from text [] = None
options_from text (word ∷ words) = option_and_then (with_marker word) (options_from option words)
options_from name [] = None
options_from name (word ∷ words) = if is_name word then option_map (with_name word) (options_from option words) else None

-- what the options at the beginning of the words say, and the words that follow; None where they are not in the grammar
unfoldable pub options_of : List (List ℕ) → Option Read
options_of words = options_from option words

-- these options, and then what is read, where none stands twice
abbrev pub joined : Options → Option Read → Option Read
joined options None = None
joined options (Some read) =
    if (options.raw && read.0.raw) || (is_some options.marker && is_some read.0.marker) then None
    else Some (record { raw = options.raw || read.0.raw; marker = option_or options.marker read.0.marker; names = options.names ++ read.0.names }, read.1)
