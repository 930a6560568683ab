-- What a client asks leaves the tickets, the stamps and the table, and its reply finds room.
use Rattle.std.proofs.Common.{◌≡◌, ℕ, zero, suc, ◌+◌, ◌-◌, ◌≤◌, Bool, true, false, List, drop, length, refl, sym, ◌∙◌, ap, subst}
use Rattle.std.specs.Prelude.{nat_lt, Option, None, Some, is_some}
use Rattle.md_world.specs.declared.Row.{Row}
use Rattle.md_world.specs.declared.Limits.{Limits}
use Rattle.md_world.specs.Differences.{items_of}
use Rattle.md_world.specs.Tables.{IsTable, at}
use Rattle.md_machine.specs.declared.Spec.{Spec}
use Rattle.md_machine.specs.declared.Event.{Event}
use Rattle.md_machine.specs.declared.Event.TheVariants as event
use Rattle.md_machine.specs.declared.Reply.{Reply}
use Rattle.md_machine.specs.declared.Reply.TheVariants as reply
use Rattle.md_machine.specs.Answers.{shown_answer}
use Rattle.md_machine.specs.States.{Phase, Gathering, Finished, Query, State, query_at, queries_of, ticket_at, stamp_at}
use Rattle.md_machine.specs.Steps.{StepResult, Answered, step, step_result, create, stop, gather, gather_in, next_part, most_hits, disable, enable, enable_in, poll, poll_in, pending, is_due}
use Rattle.md_machine.proofs.Lists.{by_cond}
use Rattle.md_merge.specs.Jobs.{Job}
use Rattle.md_merge.proofs.Drawing.{HasRoom}
use Rattle.md_merge.proofs.Ending.{Holds, Goes}

-- the query's reply finds room
abbrev RepliesInRoom : Answered → Type 0
RepliesInRoom a = HasRoom a.reply

next_room : (q : Query) (given : ℕ) (left : List Row) (most : Option ℕ) (now : ℕ) → RepliesInRoom (next_part q given left most now)
next_room q given left None now = refl
next_room q given left (Some most) now = by_cond RepliesInRoom (nat_lt (length left) most) _ _ (λ _. refl) (λ _. refl)

gather_room : (q : Query) (now : ℕ) (phase : Phase) → RepliesInRoom (gather_in q now phase)
gather_room q now Finished = refl
gather_room q now (Gathering given) =
    by_cond RepliesInRoom (nat_lt 0 q.disables) _ _ (λ _. refl)
    (λ _. next_room q given (drop given (shown_answer q.spec q.rows)) (most_hits q.spec.batch given) now)

disable_room : (limits : Limits) (q : Query) → RepliesInRoom (disable limits q)
disable_room limits q = by_cond RepliesInRoom (nat_lt q.disables limits.disables) _ _ (λ _. refl) (λ _. refl)

enable_room : (s : State) (q : Query) (now count : ℕ) (phase : Phase) → RepliesInRoom (enable_in s q now count phase)
enable_room s q now zero phase = refl
enable_room s q now (suc (suc n)) phase = refl
enable_room s q now (suc zero) (Gathering given) = refl
enable_room s q now (suc zero) Finished = refl

poll_room : (s : State) (q : Query) (now : ℕ) (phase : Phase) → RepliesInRoom (poll_in s q now phase)
poll_room s q now (Gathering given) = refl
poll_room s q now Finished =
    by_cond RepliesInRoom (nat_lt 0 q.disables) _ _ (λ _. refl)
    (λ _. by_cond RepliesInRoom (is_due q.spec.batch (items_of (pending s q)) (now - q.delivered)) _ _ (λ _. refl) (λ _. refl))

-- the reply finds room, and only the queries are others
pub record Keeps (s : State) (o : StepResult) : Type 0 where
  pub limits : o.state.limits ≡ s.limits
  pub table : o.state.table ≡ s.table
  pub drawn : o.state.drawn ≡ s.drawn
  pub tickets : o.state.tickets ≡ s.tickets
  pub stamps : o.state.stamps ≡ s.stamps
  pub room : HasRoom o.reply

-- whether a client asks this
abbrev pub is_question : Event → Bool
is_question (event.Draw path) = false
is_question (event.Commit ticket change) = false
is_question (event.Close ticket) = false
is_question _ = true

module _ (s : State) where
  -- an outcome that leaves all but the queries
  abbrev Same : Reply → List Query → StepResult
  Same r queries = record { reply = r; state = record s { queries = queries } }

  same : (r : Reply) (queries : List Query) → HasRoom r → Keeps s (Same r queries)
  same r queries room = record { limits = refl; table = refl; drawn = refl; tickets = refl; stamps = refl; room = room }

  all_same : (r : Reply) → HasRoom r → Keeps s (record { reply = r; state = s })
  all_same r room = record { limits = refl; table = refl; drawn = refl; tickets = refl; stamps = refl; room = room }

  asked_keeps : (ask : Query → Answered) → ((q : Query) → RepliesInRoom (ask q)) → (o : Option Query) → Keeps s (step_result s ask o)
  asked_keeps ask room None = all_same reply.NoQuery refl
  asked_keeps ask room (Some q) = same (ask q).reply _ (room q)

  create_keeps : (c n : ℕ) (spec : Spec) → Keeps s (create s c n spec)
  create_keeps c n spec =
      by_cond (Keeps s) (is_some (query_at s.queries c n)) _ _ (λ _. all_same reply.Taken refl)
      (λ _. by_cond (Keeps s) (nat_lt (queries_of s.queries c) s.limits.queries) _ _
      (λ _. same (reply.Created s.version) _ refl) (λ _. all_same reply.TooMany refl))

  stop_keeps : (c n : ℕ) (o : Option Query) → Keeps s (stop s c n o)
  stop_keeps c n None = all_same reply.NoQuery refl
  stop_keeps c n (Some q) = same reply.Stopped _ refl

  -- What a client asks changes only the queries.
  pub question_keeps : (e : Event) → is_question e ≡ true → Keeps s (step s e)
  question_keeps (event.Draw path) is = cc
  question_keeps (event.Commit ticket change) is = cc
  question_keeps (event.Close ticket) is = cc
  question_keeps (event.Create c n spec) is = create_keeps c n spec
  question_keeps (event.Gather c n now) is = asked_keeps (λ q. gather q now) (λ q. gather_room q now q.phase) (query_at s.queries c n)
  question_keeps (event.Disable c n) is = asked_keeps (disable s.limits) (disable_room s.limits) (query_at s.queries c n)
  question_keeps (event.Enable c n now) is = asked_keeps (λ q. enable s q now) (λ q. enable_room s q now q.disables q.phase) (query_at s.queries c n)
  question_keeps (event.Poll c n now) is = asked_keeps (λ q. poll s q now) (λ q. poll_room s q now q.phase) (query_at s.queries c n)
  question_keeps (event.Stop c n) is = stop_keeps c n (query_at s.queries c n)
  question_keeps (event.Vacuum c) is = all_same reply.Vacuumed refl

-- and keeps what holds
pub question_goes : (jobs : List Job) (ended : ℕ → Bool) (s : State) → Holds jobs ended s → (e : Event) → is_question e ≡ true → Goes jobs ended (step s e)
question_goes jobs ended s h e is =
    let k = question_keeps s e is in
    record {
      holds =
          record {
            limits = k.limits ∙ h.limits;
            tickets = λ t. ap (λ ts. ticket_at ts t) k.tickets ∙ h.tickets t;
            few = subst (λ n. n ≤ length jobs) (sym (ap (λ n. n + length (step s e).state.tickets) (ap length k.stamps) ∙ ap (λ n. length s.stamps + n) (ap length k.tickets))) h.few;
            stamps = λ p. ap (λ ss. stamp_at ss p) k.stamps ∙ h.stamps p;
            ordered = subst IsTable (sym k.table) h.ordered;
            rows = λ p. ap (λ rows. at rows p) k.table ∙ h.rows p;
          };
      room = k.room;
    }
