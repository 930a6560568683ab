-- The script that is made is read.
use Rattle.std.proofs.Common.{◌≡◌, ◌<◌, ◌≤◌, ◌+◌, ◌*◌, ◌-◌, ◌/◌, ℕ, zero, suc, List, [], ◌++◌, codes, length, take, subst, arith, append_assoc}
use Rattle.std.specs.Fmt.{decimal}
use Rattle.std.specs.List.{All, slice_index_or}
use Rattle.std.proofs.Math.Nat.{mod-lt, div-le_self}
use Rattle.std.proofs.lemmas.List.{length-map, length-take-le}
use Rattle.std.proofs.lemmas.List.Elements.{All-nil, All-cons, All-map, All-take}
use Rattle.md_source.specs.Tree.{File}
use Rattle.md_gen.specs.Draws.{next, drawn}
use Rattle.md_gen.specs.Files.{after_file, after_files, drawn_file, drawn_files, files, kind}
use Rattle.md_gen.specs.Scripts.{action, after_action, asked_line, clients, imports, path_at, path_line, polls, queries, query_line, script, script_over, step, steps}
use Rattle.md_gen.specs.Reads.{EachIsRead}
use Rattle.md_gen.proofs.More.{length-drawn_files}
use Rattle.md_gen.proofs.Stated.{IsStated, asked_text, query_text, stated_gather, stated_poll, stated_disable, stated_enable, stated_queries, below_8}
use Rattle.md_gen.proofs.Written.{IsWritten, path_written, stated_import, stated_remove}
use Rattle.md_gen.proofs.Texts.{AreStated, stated_none, stated_join, stated_more, stated_line, stated_each, stated_read}

drawn_below : (state bound : ℕ) → 0 < bound → drawn state bound < bound
unfolding drawn
drawn_below state bound some = mod-lt _ some

-- a client's line
asked_stated : (word : List ℕ) → ((client : ℕ) → client < 8 → IsStated (asked_text word client)) → (client : ℕ) → client < 8 → AreStated (asked_line word client) 1
asked_stated word known client less =
    subst (λ text. AreStated text 1) (append_assoc (codes "c" ++ decimal client ++ codes " " ++ word) (codes " 1") (codes "\n")) (stated_line (asked_text word client) (known client less))

poll_stated : (client : ℕ) → client < 8 → AreStated (asked_line (codes "poll") client) 1
poll_stated = asked_stated (codes "poll") stated_poll

query_stated : (client : ℕ) → client < 8 → AreStated (query_line client ++ asked_line (codes "gather") client) 2
query_stated client less = stated_join (query_line client) (asked_line (codes "gather") client) 1 1 (stated_line (query_text client) (stated_queries client less)) (asked_stated (codes "gather") stated_gather client less)

abbrev IsClient : ℕ → Type 0
IsClient client = client < 8

are_clients : All IsClient clients
are_clients = λ k d less. below_8 (λ i. slice_index_or clients i d < 8) (omega arith) (omega arith) (omega arith) (omega arith) (omega arith) (omega arith) (omega arith) (omega arith) k less

queries_stated : AreStated (queries clients) 16
queries_stated = stated_each (λ client. query_line client ++ asked_line (codes "gather") client) IsClient query_stated clients are_clients

polls_stated : AreStated (polls clients) 16
polls_stated = stated_each (asked_line (codes "poll")) IsClient (λ client less. stated_more (asked_line (codes "poll") client) 1 2 (omega arith) (poll_stated client less)) clients are_clients

-- the lines of files that are imported and removed, whose paths are written as they are
abbrev HasPath : File → Type 0
HasPath file = IsWritten file.0.path

import_stated : (file : File) → HasPath file → AreStated (path_line (codes "import") file.0.path) 2
import_stated file written = stated_more (path_line (codes "import") file.0.path) 1 2 (omega arith) (stated_line (codes "import" ++ codes " " ++ file.0.path) (stated_import file.0.path written))

module _ (files : List File) (written : All HasPath files) where
  path_at_written : (i : ℕ) → i < length files → IsWritten (path_at files i)
  path_at_written i less = All-map IsWritten (λ file. file.0.path) files written i [] (omega (arith, less, length-map files (λ file. file.0.path)))

  action_stated : (i state k : ℕ) → i < length files → AreStated (action files i state k) 1
  action_stated i state zero less = stated_line (codes "remove" ++ codes " " ++ path_at files (drawn state (i + 1))) (stated_remove (path_at files (drawn state (i + 1))) (path_at_written (drawn state (i + 1)) (omega (arith, drawn_below state (i + 1) (omega arith)))))
  action_stated i state (suc zero) less = asked_stated (codes "poll") stated_poll (drawn state 8) (drawn_below state 8 (omega arith))
  action_stated i state (suc (suc zero)) less = asked_stated (codes "disable") stated_disable (drawn state 8) (drawn_below state 8 (omega arith))
  action_stated i state (suc (suc (suc k))) less = asked_stated (codes "enable") stated_enable (drawn state 8) (drawn_below state 8 (omega arith))

  step_stated : (state i : ℕ) → i < length files → AreStated (step files state i) 2
  unfolding step
  step_stated state i less =
      stated_join (path_line (codes "import") (path_at files i)) (action files i (next state) (drawn state 4)) 1 1
      (stated_line (codes "import" ++ codes " " ++ path_at files i) (stated_import (path_at files i) (path_at_written i less)))
      (action_stated i (next state) (drawn state 4) less)

  steps_stated : (state i count : ℕ) → i + count ≤ length files → AreStated (steps files state i count) (2 * count)
  steps_stated state i zero within = stated_none
  steps_stated state i (suc count) within =
      stated_more (step files state i ++ steps files (after_action state) (i + 1) count) (2 + 2 * count) (2 * suc count) (omega arith)
      (stated_join (step files state i) (steps files (after_action state) (i + 1) count) 2 (2 * count) (step_stated state i (omega arith)) (steps_stated (after_action state) (i + 1) count (omega arith)))

  script_stated : (state n : ℕ) → length files ≡ n → AreStated (script_over files state n) (2 * n + 32)
  unfolding script_over
  script_stated state n count =
      let half = n / 2 in
      let less : half ≤ n = div-le_self n 2 in
      let taken : length (take half files) ≡ half = length-take-le half files (omega (arith, less, count)) in
      let first : AreStated (imports (take half files)) (2 * length (take half files)) = stated_each (λ file. path_line (codes "import") file.0.path) HasPath import_stated (take half files) (All-take HasPath half files written) in
      let later : AreStated (steps files state half (n - half)) (2 * (n - half)) = steps_stated state half (n - half) (omega (arith, less, count)) in
      let prefix = stated_join (imports (take half files)) (queries clients) (2 * length (take half files)) 16 first queries_stated in
      let most = stated_join (imports (take half files) ++ queries clients) (steps files state half (n - half)) (2 * length (take half files) + 16) (2 * (n - half)) prefix later in
      let all = stated_join (imports (take half files) ++ queries clients ++ steps files state half (n - half)) (polls clients) (2 * length (take half files) + 16 + 2 * (n - half)) 16 most polls_stated in
      stated_more (script_over files state n) (2 * length (take half files) + 16 + 2 * (n - half) + 16) (2 * n + 32) (omega (arith, less, taken)) all

drawn_written : (state i n : ℕ) → i + n ≤ 10000 → All HasPath (drawn_files state i n)
unfolding drawn_file
drawn_written state i zero within = All-nil HasPath
drawn_written state i (suc n) within =
    All-cons HasPath (drawn_file state i) (drawn_files (after_file state) (i + 1) n) (path_written i (kind (drawn state 3)) (omega arith)) (drawn_written (after_file state) (i + 1) n (omega arith))

pub each_read : EachIsRead
unfolding script files
each_read start n some most =
    stated_read (script start n) (2 * n + 32) (omega arith) (script_stated (files start n) (drawn_written start 0 n (omega arith)) (after_files start n) n (length-drawn_files start 0 n))
