-- Each reply of the machine has a text.
use Rattle.std.proofs.Common.{◌≡◌, ℕ, zero, suc, ◌-◌, true, List, length, drop, refl}
use Rattle.std.specs.Prelude.{Option, None, Some, is_some, nat_lt}
use Rattle.md_world.specs.declared.Row.{Row}
use Rattle.md_world.specs.declared.Change.{Change}
use Rattle.md_world.specs.declared.Limits.{Limits}
use Rattle.md_world.specs.Differences.{items_of}
use Rattle.md_machine.specs.declared.Event.{Event}
use Rattle.md_machine.specs.declared.Event.TheVariants as event
use Rattle.md_machine.specs.Answers.{shown_answer}
use Rattle.md_machine.specs.States.{Ticket, Stamp, Phase, Gathering, Finished, Query, State, ticket_at, stamp_at, query_at, queries_of}
use Rattle.md_machine.specs.Steps.{StepResult, Answered, step, commit, commit_over, close, step_result, stop, gather, gather_in, next_part, most_hits, disable, enable, enable_in, poll, poll_in, pending, is_due}
use Rattle.md_machine.proofs.Lists.{by_cond}
use Rattle.md_render.specs.Texts.{answers_commit, answers_close, answers_draw, answers_query, has_text}

-- a query's answer, and an outcome, that has a text
abbrev Replies : Answered → Type 0
Replies a = answers_query a.reply ≡ true

abbrev RepliesToQuery : StepResult → Type 0
RepliesToQuery o = answers_query o.reply ≡ true

next_replies : (q : Query) (given now : ℕ) (left : List Row) (most : Option ℕ) → Replies (next_part q given left most now)
next_replies q given now left None = refl
next_replies q given now left (Some most) = by_cond Replies (nat_lt (length left) most) _ _ (λ _. refl) (λ _. refl)

gather_replies : (q : Query) (now : ℕ) (phase : Phase) → Replies (gather_in q now phase)
gather_replies q now Finished = refl
gather_replies q now (Gathering given) =
    by_cond Replies (nat_lt 0 q.disables) _ _ (λ _. refl)
    (λ _. next_replies q given now (drop given (shown_answer q.spec q.rows)) (most_hits q.spec.batch given))

disable_replies : (limits : Limits) (q : Query) → Replies (disable limits q)
disable_replies limits q = by_cond Replies (nat_lt q.disables limits.disables) _ _ (λ _. refl) (λ _. refl)

enable_replies : (s : State) (q : Query) (now count : ℕ) (phase : Phase) → Replies (enable_in s q now count phase)
enable_replies s q now zero phase = refl
enable_replies s q now (suc (suc n)) phase = refl
enable_replies s q now (suc zero) (Gathering given) = refl
enable_replies s q now (suc zero) Finished = refl

poll_replies : (s : State) (q : Query) (now : ℕ) (phase : Phase) → Replies (poll_in s q now phase)
poll_replies s q now (Gathering given) = refl
poll_replies s q now Finished =
    by_cond Replies (nat_lt 0 q.disables) _ _ (λ _. refl)
    (λ _. by_cond Replies (is_due q.spec.batch (items_of (pending s q)) (now - q.delivered)) _ _ (λ _. refl) (λ _. refl))

asked_answers : (s : State) (ask : Query → Answered) → ((q : Query) → Replies (ask q)) → (o : Option Query) → RepliesToQuery (step_result s ask o)
asked_answers s ask replies None = refl
asked_answers s ask replies (Some q) = replies q

commit_answers : (s : State) (change : Change) (o : Option Ticket) → answers_commit (commit s change o).reply ≡ true
commit_answers s change None = refl
commit_answers s change (Some t) = over (stamp_at s.stamps t.path)
  where
    over : (stamp : Option Stamp) → answers_commit (commit_over s t change stamp).reply ≡ true
    over (Some stamp) = by_cond (λ (o : StepResult). answers_commit o.reply ≡ true) (nat_lt t.number stamp.ticket) _ _ (λ _. refl) (λ _. refl)
    over None = by_cond (λ (o : StepResult). answers_commit o.reply ≡ true) (nat_lt (length s.stamps) s.limits.paths) _ _ (λ _. refl) (λ _. refl)

close_answers : (s : State) (o : Option Ticket) → answers_close (close s o).reply ≡ true
close_answers s None = refl
close_answers s (Some t) = refl

stop_answers : (s : State) (c n : ℕ) (o : Option Query) → RepliesToQuery (stop s c n o)
stop_answers s c n None = refl
stop_answers s c n (Some q) = refl

-- Every event with the machine's reply has a text.
pub step_has_text : (s : State) (e : Event) → has_text e (step s e).reply ≡ true
step_has_text s (event.Draw path) = by_cond (λ (o : StepResult). answers_draw o.reply ≡ true) (nat_lt s.drawn s.limits.tickets) _ _ (λ _. refl) (λ _. refl)
step_has_text s (event.Commit number change) = commit_answers s change (ticket_at s.tickets number)
step_has_text s (event.Close number) = close_answers s (ticket_at s.tickets number)
step_has_text s (event.Create c n spec) =
    by_cond RepliesToQuery (is_some (query_at s.queries c n)) _ _ (λ _. refl)
    (λ _. by_cond RepliesToQuery (nat_lt (queries_of s.queries c) s.limits.queries) _ _ (λ _. refl) (λ _. refl))
step_has_text s (event.Gather c n now) = asked_answers s (λ q. gather q now) (λ q. gather_replies q now q.phase) (query_at s.queries c n)
step_has_text s (event.Disable c n) = asked_answers s (disable s.limits) (disable_replies s.limits) (query_at s.queries c n)
step_has_text s (event.Enable c n now) = asked_answers s (λ q. enable s q now) (λ q. enable_replies s q now q.disables q.phase) (query_at s.queries c n)
step_has_text s (event.Poll c n now) = asked_answers s (λ q. poll s q now) (λ q. poll_replies s q now q.phase) (query_at s.queries c n)
step_has_text s (event.Stop c n) = stop_answers s c n (query_at s.queries c n)
step_has_text s (event.Vacuum c) = refl
