-- Tables, what replies hand out and what clients hold are lists of files in path order.
use Rattle.std.proofs.Common.{◌≡◌, ℕ, zero, suc, ◌-◌, List, [], ◌∷◌, take, drop, length, refl, sym, subst}
use Rattle.std.specs.Prelude.{◌≢◌, ◌==◌, Option, None, Some, is_some, slice_get, nat_lt, fold, not}
use Rattle.std.specs.List.{AllByRecursion, zip}
use Rattle.std.proofs.lemmas.List.{take-append-drop}
use Rattle.std.proofs.lemmas.List.Sums.{fold-append}
use Rattle.md_world.specs.declared.Row.{Row}
use Rattle.md_world.specs.declared.Change.{Change}
use Rattle.md_world.specs.declared.Limits.{Limits}
use Rattle.md_world.specs.Tables.{IsRowTable, has_path, at}
use Rattle.md_match.specs.Conditions.{passes}
use Rattle.md_world.specs.Differences.{items_of, was_other}
use Rattle.md_world.proofs.Lookups.{by_test, some_inj}
use Rattle.md_world.proofs.Tables.{rows_filter, rows_shown, rows_prefix, rows_back, rows_changed, rows_with_rows, rows_without_paths, rows_ascend}
use Rattle.md_machine.specs.declared.Spec.{Spec}
use Rattle.md_machine.specs.declared.Event.{Event}
use Rattle.md_machine.specs.declared.Event.TheVariants as event
use Rattle.md_machine.specs.declared.Reply.{Reply}
use Rattle.md_machine.specs.declared.Reply.TheVariants as reply
use Rattle.md_machine.specs.Answers.{condition_of, answer, shown_answer, diff, notice_of}
use Rattle.md_machine.specs.States.{Ticket, Stamp, Phase, Gathering, Finished, Query, State, opening, ticket_at, stamp_at, query_at, queries_of}
use Rattle.md_machine.specs.Steps.{StepResult, Answered, step, commit, commit_over, close, create, step_result, stop, gather, gather_in, next_part, most_hits, disable, enable, enable_in, poll, poll_in, pending, is_due}
use Rattle.md_machine.specs.Runs.{Past, grown, changed_by, past_of, tables_of, run_from, run, entries, versions, is_of, received_more, received_by, received, taken_in, held}
use Rattle.md_machine.specs.Files.{IsNoRootDraw, DrawsNoRoot, NamesFiles, HandsOutFiles}
use Rattle.md_machine.proofs.Lists.{by_cond, all_more}
use Rattle.md_machine.proofs.Queries.{own_place}
use Rattle.md_machine.proofs.Running.{Received, Good, received_then, step_good, opening_good}
use Rattle.md_machine.proofs.Law.{good_at}

-- ---- what is handed out of lists of files

answer_files : (spec : Spec) (rows : List Row) → IsRowTable rows → IsRowTable (answer spec rows)
unfolding answer
answer_files spec rows h = rows_filter (passes (condition_of spec)) rows h

shown_files : (spec : Spec) (rows : List Row) → IsRowTable rows → IsRowTable (shown_answer spec rows)
shown_files spec rows h = rows_shown (answer spec rows) (answer_files spec rows h)

take_files : (n : ℕ) (rows : List Row) → IsRowTable rows → IsRowTable (take n rows)
take_files n rows h = rows_prefix (take n rows) (drop n rows) (subst IsRowTable (sym (take-append-drop n rows)) h)

drop_files : (n : ℕ) (rows : List Row) → IsRowTable rows → IsRowTable (drop n rows)
drop_files n rows h = rows_back (take n rows) (drop n rows) (subst IsRowTable (sym (take-append-drop n rows)) h)

notice_files : (spec : Spec) (old new : List Row) (from to : ℕ) → IsRowTable old → IsRowTable new → NamesFiles (notice_of (diff spec old new) from to)
notice_files spec old new from to h k =
    let was = answer spec old in
    let is = answer spec new in
    let gone = rows_filter (λ row. not (has_path is row.path)) was (answer_files spec old h) in
    record {
      added = rows_shown _ (rows_filter (λ row. not (has_path was row.path)) is (answer_files spec new k));
      changed = rows_shown _ (rows_filter (λ row. was_other (at was row.path) row) is (answer_files spec new k));
      removed = rows_ascend _ gone;
    }

-- ---- what a query answers whose base is of files

abbrev Hands : Answered → Type 0
Hands a = HandsOutFiles a.reply

next_hands : (q : Query) (given now : ℕ) (left : List Row) (most : Option ℕ) → IsRowTable left → Hands (next_part q given left most now)
next_hands q given now left None h = h
next_hands q given now left (Some most) h = by_cond Hands (nat_lt (length left) most) _ _ (λ _. h) (λ _. take_files most left h)

gather_hands : (q : Query) (now : ℕ) (phase : Phase) → IsRowTable q.rows → Hands (gather_in q now phase)
gather_hands q now Finished h = tt
gather_hands q now (Gathering given) h =
    by_cond Hands (nat_lt 0 q.disables) _ _ (λ _. tt)
    (λ _. next_hands q given now (drop given (shown_answer q.spec q.rows)) (most_hits q.spec.batch given) (drop_files given _ (shown_files q.spec q.rows h)))

disable_hands : (limits : Limits) (q : Query) → Hands (disable limits q)
disable_hands limits q = by_cond Hands (nat_lt q.disables limits.disables) _ _ (λ _. tt) (λ _. tt)

enable_hands : (s : State) (q : Query) (now count : ℕ) (phase : Phase) → IsRowTable s.table → IsRowTable q.rows → Hands (enable_in s q now count phase)
enable_hands s q now zero phase t h = tt
enable_hands s q now (suc (suc n)) phase t h = tt
enable_hands s q now (suc zero) (Gathering given) t h = tt
enable_hands s q now (suc zero) Finished t h = notice_files q.spec q.rows s.table q.base s.version h t

poll_hands : (s : State) (q : Query) (now : ℕ) (phase : Phase) → IsRowTable s.table → IsRowTable q.rows → Hands (poll_in s q now phase)
poll_hands s q now (Gathering given) t h = tt
poll_hands s q now Finished t h =
    by_cond Hands (nat_lt 0 q.disables) _ _ (λ _. tt)
    (λ _. by_cond Hands (is_due q.spec.batch (items_of (pending s q)) (now - q.delivered)) _ _
    (λ _. notice_files q.spec q.rows s.table q.base s.version h t) (λ _. tt))

-- ---- what the machine replies in a state whose tables are of files

abbrev Shows : StepResult → Type 0
Shows o = HandsOutFiles o.reply

-- the tables that queries speak of
abbrev BasesAreFiles : State → Type 0
BasesAreFiles s = (q : Query) → query_at s.queries q.client q.number ≡ Some q → IsRowTable q.rows

module _ (s : State) (t : IsRowTable s.table) (bases : BasesAreFiles s) where
  commit_over_shows : (ticket : Ticket) (change : Change) (o : Option Stamp) → Shows (commit_over s ticket change o)
  commit_over_shows ticket change (Some stamp) = by_cond Shows (nat_lt ticket.number stamp.ticket) _ _ (λ _. tt) (λ _. tt)
  commit_over_shows ticket change None = by_cond Shows (nat_lt (length s.stamps) s.limits.paths) _ _ (λ _. tt) (λ _. tt)

  commit_shows : (change : Change) (o : Option Ticket) → Shows (commit s change o)
  commit_shows change None = tt
  commit_shows change (Some ticket) = commit_over_shows ticket change (stamp_at s.stamps ticket.path)

  close_shows : (o : Option Ticket) → Shows (close s o)
  close_shows None = tt
  close_shows (Some ticket) = tt

  create_shows : (c n : ℕ) (spec : Spec) → Shows (create s c n spec)
  create_shows c n spec =
      by_cond Shows (is_some (query_at s.queries c n)) _ _ (λ _. tt)
      (λ _. by_cond Shows (nat_lt (queries_of s.queries c) s.limits.queries) _ _ (λ _. tt) (λ _. tt))

  asked_shows : (ask : Query → Answered) → ((q : Query) → IsRowTable q.rows → Hands (ask q)) → (c n : ℕ) (o : Option Query) → query_at s.queries c n ≡ o → Shows (step_result s ask o)
  asked_shows ask hands c n None h = tt
  asked_shows ask hands c n (Some q) h = hands q (bases q (own_place s.queries c n q h))

  stop_shows : (c n : ℕ) (o : Option Query) → Shows (stop s c n o)
  stop_shows c n None = tt
  stop_shows c n (Some q) = tt

  step_shows : (e : Event) → Shows (step s e)
  step_shows (event.Draw path) = by_cond Shows (nat_lt s.drawn s.limits.tickets) _ _ (λ _. tt) (λ _. tt)
  step_shows (event.Commit n change) = commit_shows change (ticket_at s.tickets n)
  step_shows (event.Close n) = close_shows (ticket_at s.tickets n)
  step_shows (event.Create c n spec) = create_shows c n spec
  step_shows (event.Gather c n now) = asked_shows (λ q. gather q now) (λ q h. gather_hands q now q.phase h) c n (query_at s.queries c n) refl
  step_shows (event.Disable c n) = asked_shows (disable s.limits) (λ q _. disable_hands s.limits q) c n (query_at s.queries c n) refl
  step_shows (event.Enable c n now) = asked_shows (λ q. enable s q now) (λ q h. enable_hands s q now q.disables q.phase t h) c n (query_at s.queries c n) refl
  step_shows (event.Poll c n now) = asked_shows (λ q. poll s q now) (λ q h. poll_hands s q now q.phase t h) c n (query_at s.queries c n) refl
  step_shows (event.Stop c n) = stop_shows c n (query_at s.queries c n)
  step_shows (event.Vacuum c) = tt

-- ---- whole runs

-- the tickets that were drawn are for files, and the tables so far are of files
record PastOfFiles (past : Past) : Type 0 where
  drawn : AllByRecursion (λ (ticket : Ticket). ticket.path ≢ []) past.drawn
  newest : IsRowTable past.newest
  earlier : AllByRecursion IsRowTable past.earlier

drawn_file : (tickets : List Ticket) (n : ℕ) (t : Ticket) → AllByRecursion (λ (ticket : Ticket). ticket.path ≢ []) tickets → ticket_at tickets n ≡ Some t → t.path ≢ []
drawn_file [] n t all h = cc
drawn_file (x ∷ tickets) n t all h =
    by_test (x.number == n)
    (λ e. subst (λ (ticket : Ticket). ticket.path ≢ []) (some_inj x t (rw e at h)) all.0)
    (λ e. drawn_file tickets n t all.1 (rw e at h))

changed_files : (past : Past) (n : ℕ) (change : Change) → PastOfFiles past → (o : Option Ticket) → ticket_at past.drawn n ≡ o → PastOfFiles (changed_by past change o)
changed_files past n change h None e = h
changed_files past n change h (Some t) e =
    record {
      drawn = h.drawn;
      newest = rows_changed past.newest t.path change (drawn_file past.drawn n t h.drawn e) h.newest;
      earlier = all_more IsRowTable past.earlier past.newest h.earlier h.newest;
    }

grown_files : (past : Past) (e : Event) (r : Reply) → IsNoRootDraw e → PastOfFiles past → PastOfFiles (grown past (e, r))
grown_files past (event.Draw path) (reply.Ticket number) no_root h = record { drawn = (no_root, h.drawn); newest = h.newest; earlier = h.earlier }
grown_files past (event.Commit n change) (reply.Committed version) no_root h = changed_files past n change h (ticket_at past.drawn n) refl
grown_files past _ _ no_root h = h

tables_files : (past : Past) → PastOfFiles past → AllByRecursion IsRowTable (tables_of past)
tables_files past h = all_more IsRowTable past.earlier past.newest h.earlier h.newest

-- an item at a place has what each has
all_get : {A : Type 0} (P : A → Type 0) (xs : List A) (i : ℕ) (x : A) → AllByRecursion P xs → slice_get xs i ≡ Some x → P x
all_get P [] i x h e = cc
all_get P (y ∷ xs) zero x h e = subst P (some_inj y x e) h.0
all_get P (y ∷ xs) (suc i) x h e = all_get P xs i x h.1 e

-- the tables of a state are among those of its past
module _ (past : Past) (received_so : Received) (s : State) (good : Good past received_so s) (h : PastOfFiles past) where
  newest_files : IsRowTable s.table
  newest_files = subst IsRowTable good.newest h.newest

  bases_files : BasesAreFiles s
  bases_files q live = all_get IsRowTable (tables_of past) q.base q.rows (tables_files past h) (good.queries q live).of_base

replies_files : (past : Past) (received_so : Received) (s : State) → Good past received_so s → PastOfFiles past → (events : List Event) → DrawsNoRoot events → AllByRecursion HandsOutFiles (run_from s events).replies
replies_files past received_so s good h [] no_root = tt
replies_files past received_so s good h (e ∷ events) no_root = (
  step_shows s (newest_files past received_so s good h) (bases_files past received_so s good h) e,
  replies_files (grown past (e, (step s e).reply)) (received_then received_so (e, (step s e).reply)) (step s e).state (step_good past received_so s good e)
      (grown_files past e (step s e).reply no_root.0 h) events no_root.1,
)

past_files : (past : Past) (events : List Event) (replies : List Reply) → DrawsNoRoot events → PastOfFiles past → PastOfFiles (fold grown past (zip events replies))
past_files past [] replies no_root h = h
past_files past (e ∷ events) [] no_root h = h
past_files past (e ∷ events) (r ∷ replies) no_root h = past_files (grown past (e, r)) events replies no_root.1 (grown_files past e r no_root.0 h)

abbrev no_past : Past
no_past = record { drawn = []; newest = []; earlier = [] }

none_files : PastOfFiles no_past
none_files = record { drawn = tt; newest = record { ordered = tt; no_root = tt }; earlier = tt }

at_end : (limits : Limits) (events : List Event) → DrawsNoRoot events → PastOfFiles (past_of (entries limits events))
at_end limits events no_root = past_files no_past events (run limits events).replies no_root none_files

pub versions_of_files : (limits : Limits) (events : List Event) → DrawsNoRoot events → AllByRecursion IsRowTable (versions limits events)
versions_of_files limits events no_root = tables_files (past_of (entries limits events)) (at_end limits events no_root)

pub newest_of_files : (limits : Limits) (events : List Event) → DrawsNoRoot events → IsRowTable (run limits events).last.table
newest_of_files limits events no_root = subst IsRowTable (good_at limits events).newest (at_end limits events no_root).newest

pub replies_of_files : (limits : Limits) (events : List Event) → DrawsNoRoot events → AllByRecursion HandsOutFiles (run limits events).replies
replies_of_files limits events no_root = replies_files no_past (λ _ _. []) (opening limits) (opening_good limits) none_files events no_root

-- ---- what a client holds

taken_files : (rows : List Row) (r : Reply) → HandsOutFiles r → IsRowTable rows → IsRowTable (taken_in rows r)
taken_files rows (reply.Progress part) f h = rows_with_rows rows part.hits h f
taken_files rows (reply.Finished part base) f h = rows_with_rows rows part.hits h f
taken_files rows (reply.Notice notice) f h = rows_with_rows _ notice.added (rows_with_rows _ notice.changed (rows_without_paths rows notice.removed h) f.changed) f.added
taken_files rows _ f h = h

received_files : (replies : List Reply) (r : Reply) → HandsOutFiles r → IsRowTable (held replies) → IsRowTable (held (received_more replies r))
received_files replies (reply.Created version) f h = (record { ordered = tt; no_root = tt })
received_files replies r f h = subst IsRowTable (sym (fold-append taken_in [] replies (r ∷ []))) (taken_files (held replies) r f h)

held_files : (c n : ℕ) (replies : List Reply) (events : List Event) (answers : List Reply) → AllByRecursion HandsOutFiles answers → IsRowTable (held replies)
    → IsRowTable (held (fold (received_by c n) replies (zip events answers)))
held_files c n replies [] answers f h = h
held_files c n replies (e ∷ events) [] f h = h
held_files c n replies (e ∷ events) (r ∷ answers) f h =
    held_files c n (received_by c n replies (e, r)) events answers f.1
    (by_cond (λ (rs : List Reply). IsRowTable (held rs)) (is_of c n e) _ _ (λ _. received_files replies r f.0 h) (λ _. h))

pub held_of_files : (limits : Limits) (events : List Event) (client number : ℕ) → DrawsNoRoot events → IsRowTable (held (received client number (entries limits events)))
held_of_files limits events client number no_root = held_files client number [] events (run limits events).replies (replies_of_files limits events no_root) (record { ordered = tt; no_root = tt })
