-- No line of a script names the root, so no event of its run draws a ticket of the root.
use Rattle.std.proofs.Common.{◌≡◌, ◌≢◌, ℕ, ℤ, Bool, true, false, cond, List, [], ◌∷◌, ◌++◌, length, refl, sym, subst, Option, Some, None, Ok}
use Rattle.std.specs.Prelude.{◌==◌, bytes_eq, codes, IfSome}
use Rattle.std.specs.List.{AllByRecursion, filter_map, cons_option, enumerate_from, list_any, zip}
use Rattle.std.specs.Option.{option_map, option_and_then}
use Rattle.std.specs.Str.{is_utf8}
use Rattle.std.specs.Str.Lines.{lines}
use Rattle.md_value.specs.Values.{PathBytes}
use Rattle.md_world.specs.declared.Change.{Change}
use Rattle.md_world.specs.declared.Change.TheVariants as change
use Rattle.md_world.specs.Limits.{standard}
use Rattle.md_machine.specs.declared.Event.{Event}
use Rattle.md_machine.specs.declared.Event.TheVariants as event
use Rattle.md_machine.specs.declared.Reply.{Reply}
use Rattle.md_machine.specs.declared.Reply.TheVariants as reply
use Rattle.md_machine.specs.Files.{IsNoRootDraw, DrawsNoRoot}
use Rattle.md_machine.specs.States.{State, opening}
use Rattle.md_machine.specs.Steps.{step}
use Rattle.md_machine.specs.Runs.{run_from}
use Rattle.md_machine.proofs.Files.{versions_of_files, newest_of_files, replies_of_files, held_of_files}
use Rattle.md_files.specs.declared.asking.ImportResult.{ImportResult}
use Rattle.md_script.specs.declared.grammar.Meaning.{Meaning}
use Rattle.md_script.specs.declared.grammar.Meaning.TheVariants as meaning
use Rattle.md_script.specs.declared.script.Line.{Line}
use Rattle.md_script.specs.declared.script.What.{What}
use Rattle.md_script.specs.declared.script.What.TheVariants as what
use Rattle.md_script.specs.Grammar.{put_of, remove_of, import_of, event_of, asked_by, client_line, command_of, moment_of, said_by, said, says_nothing}
use Rattle.md_script.specs.Lines.{is_space, first_word, after_word, words_of}
use Rattle.md_script.specs.Options.{asked_of}
use Rattle.md_script.specs.Query.{query_of, query_by, order_of, batch_of}
use Rattle.md_script.specs.Scripts.{verdict, what_of, numbered, statements}
use Rattle.md_script.specs.Words.{client_of, number_of, path_of, below_root, folder_of, content_of, expression_of}
use Rattle.md_script.proofs.Verdicts.{accepted_lem}
use Rattle.md_live.specs.Actions.{Action, action_at, action_of, actions_of, change_of}
use Rattle.md_live.specs.Actions.Action.{job, removal, query, show}
use Rattle.md_live.specs.Events.{after_commit, end_of, after_draw, job_events, events_of, events_from, run_events}
use Rattle.md_live.specs.Ascending.{FilesAscend}

-- ---- what is left by parts of a grammar

module _ {A B : Type 0} (Q : B → Type 0) where
  if_mapped : (f : A → B) (o : Option A) → ((a : A) → Q (f a)) → IfSome (option_map f o) Q
  if_mapped f None h = tt
  if_mapped f (Some a) h = h a

  if_then : (f : A → Option B) (o : Option A) → ((a : A) → IfSome (f a) Q) → IfSome (option_and_then f o) Q
  if_then f None h = tt
  if_then f (Some a) h = h a

  if_then_so : (P : A → Type 0) (f : A → Option B) (o : Option A) → IfSome o P → ((a : A) → P a → IfSome (f a) Q) → IfSome (option_and_then f o) Q
  if_then_so P f None so h = tt
  if_then_so P f (Some a) so h = h a so

  if_mapped_so : (P : A → Type 0) (f : A → B) (o : Option A) → IfSome o P → ((a : A) → P a → Q (f a)) → IfSome (option_map f o) Q
  if_mapped_so P f None so h = tt
  if_mapped_so P f (Some a) so h = h a so

if_either : {A : Type 0} (P : A → Type 0) (b : Bool) (x y : Option A) → IfSome x P → IfSome y P → IfSome (cond b x y) P
if_either P true x y first second = first
if_either P false x y first second = second

-- ---- no path of a line is the root

abbrev IsNoRoot : PathBytes → Type 0
IsNoRoot path = path ≢ []

below : (path : List ℕ) → IfSome (below_root path) IsNoRoot
below path = go (length path == 0) refl
  where
    go : (b : Bool) → (length path == 0) ≡ b → IfSome (cond b None (Some path)) IsNoRoot
    go true is = tt
    go false is = λ nil. let zero : (length path == 0) ≡ true = rw nil refl in cc

named : (word : List ℕ) → IfSome (path_of word) IsNoRoot
unfolding path_of
named word = if_either IsNoRoot (list_any is_space word) None (option_and_then below_root (folder_of word)) tt (if_then IsNoRoot below_root (folder_of word) below)

-- what a line does is to no path that is the root
abbrev NamesNoRoot : What → Type 0
NamesNoRoot (what.Put path text) = IsNoRoot path
NamesNoRoot (what.Import path) = IsNoRoot path
NamesNoRoot (what.Remove path) = IsNoRoot path
NamesNoRoot _ = Unit {0}

put_named : (rest : List ℕ) → IfSome (put_of rest) NamesNoRoot
unfolding put_of
put_named rest =
    if_then_so NamesNoRoot IsNoRoot (λ path. option_map (λ text. what.Put path text) (content_of (after_word rest))) (path_of (first_word rest)) (named (first_word rest))
    (λ path is. if_mapped NamesNoRoot (λ text. what.Put path text) (content_of (after_word rest)) (λ text. is))

remove_named : (rest : List ℕ) → IfSome (remove_of rest) NamesNoRoot
unfolding remove_of
remove_named rest = if_mapped_so NamesNoRoot IsNoRoot (λ path. what.Remove path) (path_of rest) (named rest) (λ path is. is)

import_named : (rest : List ℕ) → IfSome (import_of rest) NamesNoRoot
unfolding import_of
import_named rest = if_mapped_so NamesNoRoot IsNoRoot (λ path. what.Import path) (path_of rest) (named rest) (λ path is. is)

event_named : (client : ℕ) (verb : List ℕ) (number : ℕ) → IfSome (event_of client verb number) NamesNoRoot
unfolding event_of
event_named client verb number =
    if_either NamesNoRoot (bytes_eq verb (codes "gather")) (Some (what.Gather client number)) _ tt
    (if_either NamesNoRoot (bytes_eq verb (codes "poll")) (Some (what.Poll client number)) _ tt
    (if_either NamesNoRoot (bytes_eq verb (codes "disable")) (Some (what.Disable client number)) _ tt
    (if_either NamesNoRoot (bytes_eq verb (codes "enable")) (Some (what.Enable client number)) _ tt
    (if_either NamesNoRoot (bytes_eq verb (codes "stop")) (Some (what.Stop client number)) _ tt
    (if_either NamesNoRoot (bytes_eq verb (codes "show")) (Some (what.Show client number)) None tt tt)))))

query_named : (client : ℕ) (rest : List ℕ) → IfSome (query_of client rest) NamesNoRoot
unfolding query_of query_by
query_named client rest =
    if_then NamesNoRoot _ (number_of (first_word rest)) (λ number.
    if_then NamesNoRoot _ (asked_of (words_of (after_word rest))) (λ asked.
    if_then NamesNoRoot (query_by client number asked.0) (expression_of asked.1) (λ expr.
    if_then NamesNoRoot _ (order_of asked.0.keys) (λ order.
    if_mapped NamesNoRoot _ (batch_of asked.0.first asked.0.progress asked.0.update asked.0.ms) (λ batch. tt)))))

asked_named : (client : ℕ) (verb rest : List ℕ) → IfSome (asked_by client verb rest) NamesNoRoot
unfolding asked_by
asked_named client verb rest =
    if_either NamesNoRoot (bytes_eq verb (codes "query")) (query_of client rest) _ (query_named client rest)
    (if_then NamesNoRoot (event_of client verb) (number_of rest) (event_named client verb))

client_named : (client : ℕ) (rest : List ℕ) → IfSome (client_line client rest) NamesNoRoot
unfolding client_line
client_named client rest =
    if_either NamesNoRoot (bytes_eq rest (codes "vacuum")) (Some (what.Vacuum client)) _ tt (asked_named client (first_word rest) (after_word rest))

command_named : (word rest : List ℕ) → IfSome (command_of word rest) NamesNoRoot
unfolding command_of
command_named word rest =
    if_either NamesNoRoot (bytes_eq word (codes "put")) (put_of rest) _ (put_named rest)
    (if_either NamesNoRoot (bytes_eq word (codes "import")) (import_of rest) _ (import_named rest)
    (if_either NamesNoRoot (bytes_eq word (codes "remove")) (remove_of rest) _ (remove_named rest)
    (if_then NamesNoRoot (λ client. client_line client rest) (client_of word) (λ client. client_named client rest))))

abbrev SaysNoRoot : Meaning → Type 0
SaysNoRoot (meaning.Says what) = NamesNoRoot what
SaysNoRoot _ = Unit {0}

moment_named : (rest : List ℕ) → IfSome (moment_of rest) SaysNoRoot
unfolding moment_of
moment_named rest = if_mapped SaysNoRoot (λ ms. meaning.At ms) (number_of rest) (λ ms. tt)

said_by_named : (word rest : List ℕ) → IfSome (said_by word rest) SaysNoRoot
unfolding said_by
said_by_named word rest =
    if_either SaysNoRoot (bytes_eq word (codes "at")) (moment_of rest) _ (moment_named rest)
    (if_mapped_so SaysNoRoot NamesNoRoot (λ what. meaning.Says what) (command_of word rest) (command_named word rest) (λ what is. is))

said_named : (line : List ℕ) → IfSome (said line) SaysNoRoot
unfolding said
said_named line =
    if_either SaysNoRoot (is_utf8 line) _ None
    (if_either SaysNoRoot (says_nothing line) (Some meaning.Nothing) (said_by (first_word line) (after_word line)) tt (said_by_named (first_word line) (after_word line))) tt

what_named : (o : Option Meaning) → IfSome o SaysNoRoot → IfSome (what_of o) NamesNoRoot
what_named None is = tt
what_named (Some (meaning.Says what)) is = is
what_named (Some (meaning.At ms)) is = tt
what_named (Some meaning.Nothing) is = tt

-- ---- so it is with a whole script

abbrev AreNamed : List Line → Type 0
AreNamed read = AllByRecursion (λ line. NamesNoRoot line.what) read

with_option : (o : Option Line) (read : List Line) → IfSome o (λ line. NamesNoRoot line.what) → AreNamed read → AreNamed (cons_option o read)
with_option None read first rest = rest
with_option (Some line) read first rest = (first, rest)

numbered_named : (all : List (List ℕ)) (xs : List (ℕ × List ℕ)) → AreNamed (filter_map (numbered all) xs)
numbered_named all [] = tt
numbered_named all (x ∷ xs) =
    with_option (numbered all x) (filter_map (numbered all) xs)
    (if_mapped_so (λ line. NamesNoRoot line.what) NamesNoRoot _ (what_of (said x.1)) (what_named (said x.1) (said_named x.1)) (λ what is. is))
    (numbered_named all xs)

read_named : (bytes : List ℕ) (read : List Line) → verdict bytes ≡ Ok read → AreNamed read
read_named bytes read h = subst AreNamed (sym ((accepted_lem bytes read).0 h).2) (numbered_named (lines bytes) (enumerate_from 1 (lines bytes)))

-- ---- and with the events of its run

abbrev DoesNoRoot : Action → Type 0
DoesNoRoot (job path given) = IsNoRoot path
DoesNoRoot (removal path) = IsNoRoot path
DoesNoRoot (query event) = IsNoRootDraw event
DoesNoRoot (show client number) = Unit {0}

action_named : (now offset : ℤ) (ms : ℕ) (w : What) (given : Option ImportResult) → NamesNoRoot w → DoesNoRoot (action_at now offset ms w given)
action_named now offset ms (what.Put path text) given is = is
action_named now offset ms (what.Import path) given is = is
action_named now offset ms (what.Remove path) given is = is
action_named now offset ms (what.Query client number expr scope order batch) given is = tt
action_named now offset ms (what.Gather client number) given is = tt
action_named now offset ms (what.Poll client number) given is = tt
action_named now offset ms (what.Disable client number) given is = tt
action_named now offset ms (what.Enable client number) given is = tt
action_named now offset ms (what.Stop client number) given is = tt
action_named now offset ms (what.Show client number) given is = tt
action_named now offset ms (what.Vacuum client) given is = tt

actions_named : (now offset : ℤ) (read : List Line) (givens : List (Option ImportResult)) → AreNamed read → AllByRecursion DoesNoRoot (actions_of now offset read givens)
actions_named now offset [] givens is = tt
actions_named now offset (line ∷ read) [] is = tt
actions_named now offset (line ∷ read) (given ∷ givens) is = (action_named now offset line.at_ms line.what given is.0, actions_named now offset read givens is.1)

after_commit_named : (ticket : ℕ) (r : Reply) → DrawsNoRoot (after_commit ticket r)
after_commit_named ticket reply.StoreFull = (tt, tt)
after_commit_named ticket _ = tt

end_named : (s : State) (ticket : ℕ) (c : Option Change) → DrawsNoRoot (end_of s ticket c)
end_named s ticket (Some c) = (tt, after_commit_named ticket (step s (event.Commit ticket c)).reply)
end_named s ticket None = (tt, tt)

after_draw_named : (s : State) (c : Option Change) (r : Reply) → DrawsNoRoot (after_draw s c r)
after_draw_named s c (reply.Ticket ticket) = end_named s ticket c
after_draw_named s c _ = tt

job_named : (s : State) (path : PathBytes) (c : Option Change) → IsNoRoot path → DrawsNoRoot (job_events s path c)
job_named s path c is = (is, after_draw_named (step s (event.Draw path)).state c (step s (event.Draw path)).reply)

events_named : (s : State) (action : Action) → DoesNoRoot action → DrawsNoRoot (events_of s action)
events_named s (job path given) is = job_named s path (change_of given) is
events_named s (removal path) is = job_named s path (Some change.Remove) is
events_named s (query event) is = (is, tt)
events_named s (show client number) is = tt

both_named : (xs ys : List Event) → DrawsNoRoot xs → DrawsNoRoot ys → DrawsNoRoot (xs ++ ys)
both_named [] ys first second = second
both_named (x ∷ xs) ys first second = (first.0, both_named xs ys first.1 second)

all_named : (s : State) (actions : List Action) → AllByRecursion DoesNoRoot actions → DrawsNoRoot (events_from s actions)
all_named s [] is = tt
all_named s (action ∷ actions) is =
    both_named (events_of s action) (events_from (run_from s (events_of s action)).last actions) (events_named s action is.0)
    (all_named (run_from s (events_of s action)).last actions is.1)

prefix_named : (xs ys : List Event) → DrawsNoRoot (xs ++ ys) → DrawsNoRoot xs
prefix_named [] ys is = tt
prefix_named (x ∷ xs) ys is = (is.0, prefix_named xs ys is.1)

pub script_named : (bytes : List ℕ) (read : List Line) (now offset : ℤ) (givens : List (Option ImportResult)) → verdict bytes ≡ Ok read → DrawsNoRoot (run_events (actions_of now offset read givens))
script_named bytes read now offset givens h =
    all_named (opening standard) (actions_of now offset read givens) (actions_named now offset read givens (read_named bytes read h))

pub script_ascends : (bytes : List ℕ) (read : List Line) (now offset : ℤ) (givens : List (Option ImportResult)) (before rest : List Event)
    → verdict bytes ≡ Ok read → run_events (actions_of now offset read givens) ≡ before ++ rest → FilesAscend before
script_ascends bytes read now offset givens before rest h split =
    let draws = prefix_named before rest (subst DrawsNoRoot split (script_named bytes read now offset givens h)) in
    record {
      versions = versions_of_files standard before draws;
      newest = newest_of_files standard before draws;
      replies = replies_of_files standard before draws;
      held = λ client number. held_of_files standard before client number draws;
    }
