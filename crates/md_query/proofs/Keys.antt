-- What a query answers does not tell its client and number.
use Rattle.std.proofs.Common.{◌≡◌, ℕ, zero, suc, ◌-◌, List, length, drop, refl, ◌∙◌, sym, ap}
use Rattle.std.specs.Prelude.{Option, None, Some, nat_lt}
use Rattle.md_world.specs.declared.Row.{Row}
use Rattle.md_world.specs.declared.Limits.{Limits}
use Rattle.md_world.specs.Differences.{items_of}
use Rattle.md_world.proofs.Lookups.{by_test}
use Rattle.md_machine.specs.Answers.{shown_answer}
use Rattle.md_machine.specs.States.{Phase, Gathering, Finished, Query, State}
use Rattle.md_machine.specs.Steps.{Answered, next_part, most_hits, gather_in, disable, enable_in, poll_in, is_due, pending}
use Rattle.md_query.specs.declared.asking.Ask.{Ask}
use Rattle.md_query.specs.declared.asking.Ask.TheVariants as ask
use Rattle.md_store.specs.Places.{Place, table_at}
use Rattle.md_query.specs.Standings.{Standing, query_of, nameless}
use Rattle.md_query.specs.Asked.{answered}

module _ (places : List Place) (c n : ℕ) (q : Standing) where
  -- the same answer of the query of this client and number
  abbrev named : Answered → Answered
  named a = record { reply = a.reply; query = record a.query { client = c; number = n } }

  named_part : (given : ℕ) (left : List Row) (most : Option ℕ) (now : ℕ) → next_part (query_of places c n q) given left most now ≡ named (next_part (nameless places q) given left most now)
  named_part given left None now = refl
  named_part given left (Some most) now = by_test (nat_lt (length left) most) (λ e. rw e refl) (λ e. rw e refl)

  named_gather : (now : ℕ) (phase : Phase) → gather_in (query_of places c n q) now phase ≡ named (gather_in (nameless places q) now phase)
  named_gather now Finished = refl
  named_gather now (Gathering given) =
      by_test (nat_lt 0 q.disables)
      (λ e. rw e refl)
      (λ e. rw e (named_part given (drop given (shown_answer q.spec (table_at places q.base))) (most_hits q.spec.batch given) now))

  named_disable : (limits : Limits) → disable limits (query_of places c n q) ≡ named (disable limits (nameless places q))
  named_disable limits = by_test (nat_lt q.disables limits.disables) (λ e. rw e refl) (λ e. rw e refl)

  named_enable : (s : State) (now count : ℕ) (phase : Phase) → enable_in s (query_of places c n q) now count phase ≡ named (enable_in s (nameless places q) now count phase)
  named_enable s now zero phase = refl
  named_enable s now (suc (suc count)) phase = refl
  named_enable s now (suc zero) (Gathering given) = refl
  named_enable s now (suc zero) Finished = refl

  named_poll : (s : State) (now : ℕ) (phase : Phase) → poll_in s (query_of places c n q) now phase ≡ named (poll_in s (nameless places q) now phase)
  named_poll s now (Gathering given) = refl
  named_poll s now Finished =
      by_test (nat_lt 0 q.disables)
      (λ e. rw e refl)
      (λ e. by_test (is_due q.spec.batch (items_of (pending s (nameless places q))) (now - q.delivered)) (λ d. rw (e, d) refl) (λ d. rw (e, d) refl))

  named_answer : (s : State) (a : Ask) (now : ℕ) → answered s a now (query_of places c n q) ≡ named (answered s a now (nameless places q))
  named_answer s ask.Gather now = named_gather now q.phase
  named_answer s ask.Disable now = named_disable s.limits
  named_answer s ask.Enable now = named_enable s now q.disables q.phase
  named_answer s ask.Poll now = named_poll s now q.phase

  pub reply_of_any : (s : State) (a : Ask) (now : ℕ) → (answered s a now (nameless places q)).reply ≡ (answered s a now (query_of places c n q)).reply
  reply_of_any s a now = ap (λ (x : Answered). x.reply) (sym (named_answer s a now))

  -- a query that is as the nameless one is left
  pub query_of_any : (s : State) (a : Ask) (now : ℕ) (left : Standing) → nameless places left ≡ (answered s a now (nameless places q)).query → query_of places c n left ≡ (answered s a now (query_of places c n q)).query
  query_of_any s a now left e =
      ap (λ (x : Query). record x { client = c; number = n }) e ∙ ap (λ (x : Answered). x.query) (sym (named_answer s a now))
