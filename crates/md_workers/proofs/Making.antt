-- What a pass has made, an act at a time.
use Rattle.std.proofs.Common.{◌≡◌, ℕ, zero, suc, ◌+◌, ◌<◌, ◌≤◌, List, [], ◌∷◌, ◌++◌, length, refl, sym, ◌∙◌, ap, subst, arith, append_assoc, append-nil, length-append}
use Rattle.std.specs.Prelude.{take, slice_get, nat_lt, Option, None, Some, IfSome}
use Rattle.std.specs.List.{AllByRecursion}
use Rattle.md_value.specs.Values.{PathBytes}
use Rattle.md_world.specs.declared.Change.{Change}
use Rattle.md_machine.specs.declared.Event.{Event}
use Rattle.md_machine.specs.declared.Event.TheVariants as event
use Rattle.md_turn.specs.declared.journal.JournalEntry.{JournalEntry}
use Rattle.md_turn.specs.Passes.{Known}
use Rattle.md_merge.specs.Jobs.{Job, draws, end_of}
use Rattle.md_merge.specs.Journals.{events_in}
use Rattle.md_merge.specs.Joining.{end_after, ends_of_numbers}
use Rattle.md_pool.specs.Claims.{within}
use Rattle.md_world.proofs.Lookups.{by_test, some_inj}
use Rattle.std.proofs.lemmas.Bool.{ltb-true, ltb-false}
use Rattle.md_merge.proofs.Actors.{ends_more, ends_past}
use Rattle.md_merge.proofs.Joined.{events-append}
use Rattle.md_workers.specs.Actors.{HasMade}

pub made_none : (p : Known) → HasMade p p []
made_none p = record { gained = []; own = sym (append-nil p.own); events_are = refl; later = tt; seen = omega arith }

later_both : (n m : ℕ) (xs ys : List JournalEntry) → n ≤ m → AllByRecursion (λ (e : JournalEntry). n < e.place) xs → AllByRecursion (λ (e : JournalEntry). m < e.place) ys → AllByRecursion (λ (e : JournalEntry). n < e.place) (xs ++ ys)
later_both n m [] [] le xs ys = tt
later_both n m [] (y ∷ rest) le xs ys = (let above = ys.0 in omega arith, later_both n m [] rest le xs ys.1)
later_both n m (x ∷ rest) more le xs ys = (xs.0, later_both n m rest more le xs.1 ys)

pub made_more : (a b c : Known) (before more : List Event) → HasMade a b before → HasMade b c more → HasMade a c (before ++ more)
made_more a b c before more h k =
    record {
      gained = h.gained ++ k.gained;
      own = k.own ∙ ap (λ (own : List JournalEntry). own ++ k.gained) h.own ∙ append_assoc a.own h.gained k.gained;
      events_are = events-append h.gained k.gained ∙ ap (λ (events : List Event). events ++ events_in k.gained) h.events_are ∙ ap (λ (events : List Event). before ++ events) k.events_are;
      later = (let first = h.seen in later_both (length a.seen) (length b.seen) h.gained k.gained (omega arith) h.later k.later);
      seen = (let first = h.seen in let next = k.seen in let both = length-append h.gained k.gained in omega arith);
    }

-- the worker's pass after the end of a job more
pub end_made : (jobs : List Job) (a b c : Known) (numbers drawn : List ℕ) (k : ℕ) (job : Job) (event : Event) → drawn ≡ numbers ++ k ∷ [] → slice_get jobs k ≡ Some job → event ≡ end_of (k + 1) job.change
    → HasMade a b (ends_of_numbers jobs numbers) → HasMade b c (event ∷ []) → HasMade a c (ends_of_numbers jobs drawn)
end_made jobs a b c numbers drawn k job event is there ends h next =
    let end : event ∷ [] ≡ end_after k (slice_get jobs k) = ap (λ (e : Event). e ∷ []) ends ∙ sym (ap (end_after k) there) in
    let all : ends_of_numbers jobs numbers ++ event ∷ [] ≡ ends_of_numbers jobs drawn =
    ap (λ (es : List Event). ends_of_numbers jobs numbers ++ es) end ∙ sym (ends_more jobs numbers k) ∙ ap (ends_of_numbers jobs) (sym is) in
    subst (HasMade a c) all (made_more a b c (ends_of_numbers jobs numbers) (event ∷ []) h next)

-- and where no job was left
pub end_reached : (jobs : List Job) (a b : Known) (numbers drawn : List ℕ) (k : ℕ) → drawn ≡ numbers ++ k ∷ [] → length jobs ≤ k → HasMade a b (ends_of_numbers jobs numbers) → HasMade a b (ends_of_numbers jobs drawn)
end_reached jobs a b numbers drawn k is past h =
    subst (HasMade a b) (sym (ends_past jobs numbers k past) ∙ ap (ends_of_numbers jobs) (sym is)) h

-- a claim that is answered by a number drew it, and it is below the bound
pub claimed : (b n : ℕ) (r : Option ℕ) (k : ℕ) → r ≡ within b n → r ≡ Some k → (n ≡ k) × (n < b)
claimed b n r k is some =
    let w : within b n ≡ Some k = sym is ∙ some in
    by_test (nat_lt n b)
    (λ y. (some_inj n k (rw y at w), ltb-true n b y))
    (λ y. absurd (none_some k (rw y at w)))
  where
    none_some : (k : ℕ) → None ≡ Some k → ⊥
    none_some k h = cc

-- one that is answered by none drew a number past the bound
pub unclaimed : (b n : ℕ) (r : Option ℕ) → r ≡ within b n → r ≡ None → b ≤ n
unclaimed b n r is none =
    let w : within b n ≡ None = sym is ∙ none in
    by_test (nat_lt n b)
    (λ y. absurd (some_none n (rw y at w)))
    (λ y. ltb-false n b y)
  where
    some_none : (k : ℕ) → Some k ≡ None → ⊥
    some_none k h = cc

-- the job of a number
pub job_there : (jobs : List Job) (k : ℕ) → k < length jobs → (job : Job) × (slice_get jobs k ≡ Some job)
job_there [] k below = absurd (omega arith)
job_there (job ∷ jobs) zero below = (job, refl)
job_there (job ∷ jobs) (suc k) below = job_there jobs k (omega arith)

-- the change at the place of a job is its own
pub change_there : (jobs : List Job) (k : ℕ) (job : Job) (change : Option Change) → slice_get jobs k ≡ Some job → IfSome (slice_get jobs k) (λ (j : Job). change ≡ j.change) → change ≡ job.change
change_there jobs k job change there h = subst (λ (o : Option Job). IfSome o (λ (j : Job). change ≡ j.change)) there h

-- the path that is received of a job is its own
pub path_there : (jobs : List Job) (k : ℕ) (job : Job) (path : PathBytes) → slice_get jobs k ≡ Some job → IfSome (slice_get jobs k) (λ (j : Job). path ≡ j.path) → path ≡ job.path
path_there jobs k job path there h = subst (λ (o : Option Job). IfSome o (λ (j : Job). path ≡ j.path)) there h

-- the draws of a job more
draws_next : (jobs : List Job) (k : ℕ) (job : Job) → slice_get jobs k ≡ Some job → draws (take (suc k) jobs) ≡ draws (take k jobs) ++ event.Draw job.path ∷ []
draws_next [] k job there = absurd (nowhere k there)
  where
    nowhere : (k : ℕ) → slice_get [] k ≡ Some job → ⊥
    nowhere k h = cc
draws_next (j ∷ jobs) zero job there = ap (λ (i : Job). event.Draw i.path ∷ []) (some_inj j job there)
draws_next (j ∷ jobs) (suc k) job there = ap (λ (events : List Event). event.Draw j.path ∷ events) (draws_next jobs k job there)

draws_more : (jobs : List Job) (k : ℕ) (job : Job) → slice_get jobs k ≡ Some job → draws (take (k + 1) jobs) ≡ draws (take k jobs) ++ event.Draw job.path ∷ []
draws_more jobs k job there =
    let next : k + 1 ≡ suc k = omega arith in
    ap (λ n. draws (take n jobs)) next ∙ draws_next jobs k job there

-- a pass that drew a ticket more
pub draw_made : (jobs : List Job) (a b c : Known) (k : ℕ) (job : Job) (path : PathBytes) → slice_get jobs k ≡ Some job → path ≡ job.path
    → HasMade a b (draws (take k jobs)) → HasMade b c (event.Draw path ∷ []) → HasMade a c (draws (take (k + 1) jobs))
draw_made jobs a b c k job path there is h next =
    let all : draws (take k jobs) ++ event.Draw path ∷ [] ≡ draws (take (k + 1) jobs) =
    ap (λ (p : PathBytes). draws (take k jobs) ++ event.Draw p ∷ []) is ∙ sym (draws_more jobs k job there) in
    subst (HasMade a c) all (made_more a b c (draws (take k jobs)) (event.Draw path ∷ []) h next)
