-- The script over the files that are made.
use Rattle.std.specs.Prelude.{ℕ, zero, suc, ◌+◌, ◌-◌, ◌/◌, List, [], ◌∷◌, ◌++◌, codes, map, take, slice_index_or, nat_lt, if◌then◌else◌}
use Rattle.std.specs.Fmt.{decimal}
use Rattle.std.specs.List.{flat_map}
use Rattle.md_source.specs.Tree.{File}
use Rattle.md_gen.specs.Draws.{next, drawn}
use Rattle.md_gen.specs.Files.{files, after_files}

-- the expressions that the clients ask by
abbrev pub expressions : List (List ℕ)
expressions =
    codes "kMDItemFSName == \"*.txt\""
    ∷ codes "kMDItemStarRating >= 3"
    ∷ codes "kMDItemKeywords == \"red\"c || kMDItemTitle == \"red\"c"
    ∷ codes "* == \"*budget*\"cd"
    ∷ codes "!(kMDItemContentType == \"public.json\")"
    ∷ codes "InRange(kMDItemFSSize, 8, 20)"
    ∷ codes "md_csv_rows == 1 && kMDItemKeywords != \"tax\""
    ∷ codes "kMDItemFSContentChangeDate >= $time.today"
    ∷ []

-- a client's expression
unfoldable pub expression : ℕ → List ℕ
expression client = slice_index_or expressions client []

-- the options of a client's query, with the space behind them
abbrev pub options : ℕ → List ℕ
options client = if nat_lt client 4 then [] else codes "update=5 "

-- the path of the i-th file
abbrev pub path_at : List File → ℕ → List ℕ
path_at files i = slice_index_or (map (λ file. file.0.path) files) i []

-- a line of a word and a path
abbrev pub path_line : List ℕ → List ℕ → List ℕ
path_line word path = word ++ codes " " ++ path ++ codes "\n"

-- a line of a client, a word and the query's number, which is always 1
abbrev pub asked_line : List ℕ → ℕ → List ℕ
asked_line word client = codes "c" ++ decimal client ++ codes " " ++ word ++ codes " 1\n"

-- a line by which a client asks its query
abbrev pub query_line : ℕ → List ℕ
query_line client = codes "c" ++ decimal client ++ codes " query 1 " ++ options client ++ codes "where " ++ expression client ++ codes "\n"

-- imports of some files
abbrev pub imports : List File → List ℕ
imports files = flat_map (λ file. path_line (codes "import") file.0.path) files

-- the queries of some clients, each with the beginning of its gathering
abbrev pub queries : List ℕ → List ℕ
queries clients = flat_map (λ client. query_line client ++ asked_line (codes "gather") client) clients

-- a poll of each of some clients
abbrev pub polls : List ℕ → List ℕ
polls clients = flat_map (asked_line (codes "poll")) clients

-- by a number, a removal of one of the files up to the i-th, or a poll, a disable or an enable of a client
abbrev pub action : List File → ℕ → ℕ → ℕ → List ℕ
action files i state zero = path_line (codes "remove") (path_at files (drawn state (i + 1)))
action files i state (suc zero) = asked_line (codes "poll") (drawn state 8)
action files i state (suc (suc zero)) = asked_line (codes "disable") (drawn state 8)
action files i state _ = asked_line (codes "enable") (drawn state 8)

-- the import of the i-th file, and what is drawn to follow it
unfoldable pub step : List File → ℕ → ℕ → List ℕ
step files state i = path_line (codes "import") (path_at files i) ++ action files i (next state) (drawn state 4)

-- the state that the draws of an action leave
abbrev pub after_action : ℕ → ℕ
after_action state = next (next state)

-- so many steps, from the i-th file on
abbrev pub steps : List File → ℕ → ℕ → ℕ → List ℕ
steps files state i zero = []
steps files state i (suc count) = step files state i ++ steps files (after_action state) (i + 1) count

abbrev pub clients : List ℕ
clients = 0 ∷ 1 ∷ 2 ∷ 3 ∷ 4 ∷ 5 ∷ 6 ∷ 7 ∷ []

-- the script over n files: the first half is imported, the queries are asked and begin to gather, the others are
-- imported one by one, and each client polls
unfoldable pub script_over : List File → ℕ → ℕ → List ℕ
script_over files state n =
    let half = n / 2 in
    imports (take half files) ++ queries clients ++ steps files state half (n - half) ++ polls clients

-- the script that is made from a start: its draws come after those of the files
unfoldable pub script : ℕ → ℕ → List ℕ
script start n = script_over (files start n) (after_files start n) n
