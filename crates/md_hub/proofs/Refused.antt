-- Runs in which some events are answered `Memory`.
use Rattle.std.proofs.Common.{◌≡◌, inl, inr, true, false, cond, not, List, [], ◌∷◌, ◌++◌, length, drop, refl, sym, ◌∙◌, ap, arith, append-nil, length-append}
use Rattle.std.specs.Prelude.{ℕ, zero, suc, ◌-◌, Option, None, Some, nat_lt, is_some}
use Rattle.std.proofs.lemmas.List.Elements.{filter-append}
use Rattle.md_world.specs.declared.Change.{Change}
use Rattle.md_world.specs.declared.Limits.{Limits}
use Rattle.md_world.specs.declared.Row.{Row}
use Rattle.md_machine.specs.declared.Event.{Event}
use Rattle.md_machine.specs.declared.Event.TheVariants as event
use Rattle.md_machine.specs.declared.Reply.{Reply}
use Rattle.md_machine.specs.declared.Spec.{Spec}
use Rattle.md_machine.specs.Answers.{shown_answer}
use Rattle.md_machine.specs.States.{Ticket, Stamp, Phase, Gathering, Finished, Query, State, ticket_at, stamp_at, query_at, queries_of}
use Rattle.md_machine.specs.Steps.{StepResult, Answered, step, draw, commit, commit_over, close, create, step_result, stop, gather, gather_in, next_part, most_hits, disable, enable, enable_in, poll, poll_in, is_due, pending}
use Rattle.md_machine.specs.Runs.{run}
use Rattle.md_machine.proofs.Joining.{last-join, replies-join}
use Rattle.md_machine.proofs.Lists.{by_cond}
use Rattle.md_world.specs.Differences.{items_of}
use Rattle.md_hub.specs.Stepping.{IsAnswered, IsRefused, IsStep, is_memory}
use Rattle.md_hub.specs.Received.{IsReceived, answered, given}

-- the machine never answers want of memory
abbrev IsMade : Reply → Type 0
IsMade r = is_memory r ≡ false

made_draw : (s : State) (path : List ℕ) → IsMade (draw s path).reply
made_draw s path = by_cond (λ (o : StepResult). IsMade o.reply) (nat_lt s.drawn s.limits.tickets) _ _ (λ _. refl) (λ _. refl)

made_commit_over : (s : State) (t : Ticket) (change : Change) (o : Option Stamp) → IsMade (commit_over s t change o).reply
made_commit_over s t change (Some stamp) = by_cond (λ (o : StepResult). IsMade o.reply) (nat_lt t.number stamp.ticket) _ _ (λ _. refl) (λ _. refl)
made_commit_over s t change None = by_cond (λ (o : StepResult). IsMade o.reply) (nat_lt (length s.stamps) s.limits.paths) _ _ (λ _. refl) (λ _. refl)

made_commit : (s : State) (change : Change) (o : Option Ticket) → IsMade (commit s change o).reply
made_commit s change None = refl
made_commit s change (Some t) = made_commit_over s t change (stamp_at s.stamps t.path)

made_close : (s : State) (o : Option Ticket) → IsMade (close s o).reply
made_close s None = refl
made_close s (Some t) = refl

made_create : (s : State) (c n : ℕ) (spec : Spec) → IsMade (create s c n spec).reply
made_create s c n spec =
    by_cond (λ (o : StepResult). IsMade o.reply) (is_some (query_at s.queries c n)) _ _ (λ _. refl)
    (λ _. by_cond (λ (o : StepResult). IsMade o.reply) (nat_lt (queries_of s.queries c) s.limits.queries) _ _ (λ _. refl) (λ _. refl))

made_next : (q : Query) (n : ℕ) (left : List Row) (most : Option ℕ) (now : ℕ) → IsMade (next_part q n left most now).reply
made_next q n left None now = refl
made_next q n left (Some most) now = by_cond (λ (a : Answered). IsMade a.reply) (nat_lt (length left) most) _ _ (λ _. refl) (λ _. refl)

made_gather : (q : Query) (now : ℕ) (phase : Phase) → IsMade (gather_in q now phase).reply
made_gather q now Finished = refl
made_gather q now (Gathering n) = by_cond (λ (a : Answered). IsMade a.reply) (nat_lt 0 q.disables) _ _ (λ _. refl) (λ _. made_next q n (drop n (shown_answer q.spec q.rows)) (most_hits q.spec.batch n) now)

made_disable : (limits : Limits) (q : Query) → IsMade (disable limits q).reply
made_disable limits q = by_cond (λ (a : Answered). IsMade a.reply) (nat_lt q.disables limits.disables) _ _ (λ _. refl) (λ _. refl)

made_enable : (s : State) (q : Query) (now count : ℕ) (phase : Phase) → IsMade (enable_in s q now count phase).reply
made_enable s q now zero phase = refl
made_enable s q now (suc zero) (Gathering n) = refl
made_enable s q now (suc zero) Finished = refl
made_enable s q now (suc (suc n)) phase = refl

made_poll : (s : State) (q : Query) (now : ℕ) (phase : Phase) → IsMade (poll_in s q now phase).reply
made_poll s q now (Gathering n) = refl
made_poll s q now Finished =
    by_cond (λ (a : Answered). IsMade a.reply) (nat_lt 0 q.disables) _ _ (λ _. refl)
    (λ _. by_cond (λ (a : Answered). IsMade a.reply) (is_due q.spec.batch (items_of (pending s q)) (now - q.delivered)) _ _ (λ _. refl) (λ _. refl))

made_asked : (s : State) (ask : Query → Answered) → ((q : Query) → IsMade (ask q).reply) → (o : Option Query) → IsMade (step_result s ask o).reply
made_asked s ask each None = refl
made_asked s ask each (Some q) = each q

made_stop : (s : State) (c n : ℕ) (o : Option Query) → IsMade (stop s c n o).reply
made_stop s c n None = refl
made_stop s c n (Some q) = refl

pub never_memory : (s : State) (e : Event) → is_memory (step s e).reply ≡ false
never_memory s (event.Draw path) = made_draw s path
never_memory s (event.Commit n change) = made_commit s change (ticket_at s.tickets n)
never_memory s (event.Close n) = made_close s (ticket_at s.tickets n)
never_memory s (event.Create c n spec) = made_create s c n spec
never_memory s (event.Gather c n now) = made_asked s (λ q. gather q now) (λ q. made_gather q now q.phase) (query_at s.queries c n)
never_memory s (event.Disable c n) = made_asked s (disable s.limits) (made_disable s.limits) (query_at s.queries c n)
never_memory s (event.Enable c n now) = made_asked s (λ q. enable s q now) (λ q. made_enable s q now q.disables q.phase) (query_at s.queries c n)
never_memory s (event.Poll c n now) = made_asked s (λ q. poll s q now) (λ q. made_poll s q now q.phase) (query_at s.queries c n)
never_memory s (event.Stop c n) = made_stop s c n (query_at s.queries c n)
never_memory s (event.Vacuum c) = refl

answered-more : (events : List Event) (replies : List Reply) (e : Event) (r : Reply) → length replies ≡ length events
    → answered (events ++ e ∷ []) (replies ++ r ∷ []) ≡ answered events replies ++ cond (is_memory r) [] (e ∷ [])
answered-more [] [] e r same = refl
answered-more [] (x ∷ replies) e r same = absurd (omega arith)
answered-more (x ∷ events) [] e r same = absurd (omega arith)
answered-more (x ∷ events) (y ∷ replies) e r same =
    elim (is_memory y) as (λ b. cond b (answered (events ++ e ∷ []) (replies ++ r ∷ [])) (x ∷ answered (events ++ e ∷ []) (replies ++ r ∷ [])) ≡ cond b (answered events replies) (x ∷ answered events replies) ++ cond (is_memory r) [] (e ∷ [])) [
      | true ↦ answered-more events replies e r (omega arith)
      | false ↦ ap (λ (es : List Event). x ∷ es) (answered-more events replies e r (omega arith))
    ]

module _ (limits : Limits) (events : List Event) (replies : List Reply) (s : State) (received : IsReceived limits events replies s) (e : Event) (r : Reply) (new : State) where
  each_more : length (replies ++ r ∷ []) ≡ length (events ++ e ∷ [])
  each_more = omega (arith, length-append replies (r ∷ []), length-append events (e ∷ []), received.each)

  received_answered : IsAnswered s e r new → IsReceived limits (events ++ e ∷ []) (replies ++ r ∷ []) new
  received_answered a =
      let made : is_memory r ≡ false = ap is_memory a.reply ∙ never_memory s e in
      let more : answered (events ++ e ∷ []) (replies ++ r ∷ []) ≡ answered events replies ++ e ∷ [] = answered-more events replies e r received.each ∙ ap (λ b. answered events replies ++ cond b [] (e ∷ [])) made in
      record {
        each = each_more;
        state = a.state ∙ ap (λ (x : State). (step x e).state) received.state ∙ sym (last-join _ (answered events replies) (e ∷ [])) ∙ ap (λ es. (run limits es).last) (sym more);
        received =
            filter-append (λ x. not (is_memory x)) replies (r ∷ [])
            ∙ ap (λ b. given replies ++ cond (not b) (r ∷ []) []) made
            ∙ ap (λ (rs : List Reply). rs ++ r ∷ []) received.received
            ∙ ap (λ (x : Reply). (run limits (answered events replies)).replies ++ x ∷ []) (a.reply ∙ ap (λ (x : State). (step x e).reply) received.state)
            ∙ sym (replies-join _ (answered events replies) (e ∷ []))
            ∙ ap (λ es. (run limits es).replies) (sym more);
      }

  received_refused : IsRefused s e r new → IsReceived limits (events ++ e ∷ []) (replies ++ r ∷ []) new
  received_refused b =
      let gone : is_memory r ≡ true = ap is_memory b.reply in
      let same : answered (events ++ e ∷ []) (replies ++ r ∷ []) ≡ answered events replies = answered-more events replies e r received.each ∙ ap (λ b. answered events replies ++ cond b [] (e ∷ [])) gone ∙ append-nil (answered events replies) in
      record {
        each = each_more;
        state = b.state ∙ received.state ∙ ap (λ es. (run limits es).last) (sym same);
        received =
            filter-append (λ x. not (is_memory x)) replies (r ∷ [])
            ∙ ap (λ b. given replies ++ cond (not b) (r ∷ []) []) gone
            ∙ append-nil (given replies) ∙ received.received ∙ ap (λ es. (run limits es).replies) (sym same);
      }

  -- one more event and its reply
  pub received_more : IsStep s e r new → IsReceived limits (events ++ e ∷ []) (replies ++ r ∷ []) new
  received_more h = elim h [ inl a ↦ received_answered a | inr b ↦ received_refused b ]
