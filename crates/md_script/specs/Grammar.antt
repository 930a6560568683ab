-- What a line says.
use Rattle.std.specs.Prelude.{ℕ, ◌==◌, Bool, true, if◌then◌else◌, List, [], ◌∷◌, codes, bytes_eq, Option, Some, None}
use Rattle.std.specs.Option.{option_map, option_and_then}
use Rattle.std.specs.Str.{is_utf8}
use Rattle.md_script.specs.declared.grammar.Meaning.{Meaning}
use Rattle.md_script.specs.declared.grammar.Meaning.TheVariants as meaning
use Rattle.md_script.specs.declared.script.What.{What}
use Rattle.md_script.specs.declared.script.What.TheVariants as what
use Rattle.md_script.specs.Lines.{first_word, after_word}
use Rattle.md_script.specs.Words.{client_of, number_of, path_of, content_of}
use Rattle.md_script.specs.Query.{query_of}

-- `put PATH CONTENT` or `put PATH`
unfoldable pub put_of : List ℕ → Option What
put_of rest = option_and_then (λ path. option_map (λ text. what.Put path text) (content_of (after_word rest))) (path_of (first_word rest))

-- `remove PATH`
unfoldable pub remove_of : List ℕ → Option What
remove_of rest = option_map (λ path. what.Remove path) (path_of rest)

-- `import PATH`
unfoldable pub import_of : List ℕ → Option What
import_of rest = option_map (λ path. what.Import path) (path_of rest)

-- `cC gather N`, `cC poll N`, `cC disable N`, `cC enable N`, `cC stop N` or `cC show N`
unfoldable pub event_of : ℕ → List ℕ → ℕ → Option What
event_of client verb number =
    if bytes_eq verb (codes "gather") then Some (what.Gather client number)
    else (if bytes_eq verb (codes "poll") then Some (what.Poll client number)
    else (if bytes_eq verb (codes "disable") then Some (what.Disable client number)
    else (if bytes_eq verb (codes "enable") then Some (what.Enable client number)
    else (if bytes_eq verb (codes "stop") then Some (what.Stop client number)
    else (if bytes_eq verb (codes "show") then Some (what.Show client number)
    else None)))))

-- the line of a client by its second word and what follows it
unfoldable pub asked_by : ℕ → List ℕ → List ℕ → Option What
asked_by client verb rest =
    if bytes_eq verb (codes "query") then query_of client rest else option_and_then (event_of client verb) (number_of rest)

-- `cC vacuum`, or another line of a client
unfoldable pub client_line : ℕ → List ℕ → Option What
client_line client rest = if bytes_eq rest (codes "vacuum") then Some (what.Vacuum client) else asked_by client (first_word rest) (after_word rest)

-- the line by its first word
unfoldable pub command_of : List ℕ → List ℕ → Option What
command_of word rest =
    if bytes_eq word (codes "put") then put_of rest
    else (if bytes_eq word (codes "import") then import_of rest
    else (if bytes_eq word (codes "remove") then remove_of rest
    else option_and_then (λ client. client_line client rest) (client_of word)))

-- empty, or begins with `#`
unfoldable pub says_nothing : List ℕ → Bool
says_nothing [] = true
says_nothing (b ∷ bs) = b == 35

-- `at MS`
unfoldable pub moment_of : List ℕ → Option Meaning
moment_of rest = option_map (λ ms. meaning.At ms) (number_of rest)

-- what a line means, by its first word and what follows it
unfoldable pub said_by : List ℕ → List ℕ → Option Meaning
said_by word rest = if bytes_eq word (codes "at") then moment_of rest else option_map (λ what. meaning.Says what) (command_of word rest)

-- what a line means, or None where it is not in the grammar
unfoldable pub said : List ℕ → Option Meaning
said line =
    if is_utf8 line then (if says_nothing line then Some meaning.Nothing else said_by (first_word line) (after_word line)) else None
