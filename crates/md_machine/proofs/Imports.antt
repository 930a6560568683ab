-- Files that are imported one by one are accepted where there is room.
use Rattle.std.proofs.Common.{◌≡◌, ℕ, suc, ◌+◌, ◌≤◌, true, false, List, [], ◌∷◌, length, refl, sym, ◌∙◌, ap, subst, arith}
use Rattle.std.specs.Prelude.{Option, None, Some, nat_lt}
use Rattle.std.specs.List.{AllByRecursion}
use Rattle.std.proofs.lemmas.Bool.{lt-ltb, le-ltb, eq-eqb}
use Rattle.md_value.specs.Values.{PathBytes, is_same}
use Rattle.md_world.specs.declared.Change.{Change}
use Rattle.md_world.specs.declared.Limits.{Limits}
use Rattle.md_world.specs.Limits.{standard}
use Rattle.md_world.proofs.Lookups.{by_test}
use Rattle.md_machine.specs.declared.Event.TheVariants as event
use Rattle.md_machine.specs.declared.Reply.{Reply}
use Rattle.md_machine.specs.declared.Reply.TheVariants as reply
use Rattle.md_machine.specs.States.{Ticket, Stamp, State, opening, ticket_at, stamp_at, with_stamp}
use Rattle.md_machine.specs.Steps.{StepResult, step, commit, committed, commit_over}
use Rattle.md_machine.specs.Runs.{run_from, run}
use Rattle.md_machine.specs.Imports.{imports, acceptances, HasRoom, imported, IsAccepted}
use Rattle.md_machine.proofs.Lists.{all_map}
use Rattle.md_machine.proofs.Bounds.{one_more}

-- a stamp that is found was committed by an older ticket
found_older : (stamps : List Stamp) (drawn : ℕ) (path : PathBytes) (stamp : Stamp) → AllByRecursion (λ (x : Stamp). x.ticket ≤ drawn) stamps → stamp_at stamps path ≡ Some stamp → stamp.ticket ≤ drawn
found_older [] drawn path stamp all h = cc
found_older (s ∷ stamps) drawn path stamp all h =
    by_test (is_same s.path path)
    (λ e. let found : Some s ≡ Some stamp = rw e at h in let same : s ≡ stamp = cc in subst (λ (x : Stamp). x.ticket ≤ drawn) same all.0)
    (λ e. found_older stamps drawn path stamp all.1 (rw e at h))

-- each stamp is of this ticket at most, with one more of it
stamped_older : (stamps : List Stamp) (new : Stamp) → AllByRecursion (λ (x : Stamp). x.ticket ≤ new.ticket) stamps → AllByRecursion (λ (x : Stamp). x.ticket ≤ new.ticket) (with_stamp stamps new)
stamped_older [] new all = (omega arith, tt)
stamped_older (s ∷ stamps) new all =
    by_test (is_same s.path new.path)
    (λ e. rw e (omega arith, all.1))
    (λ e. rw e (all.0, stamped_older stamps new all.1))

module _ (limits : Limits) (files : ℕ) (s : State) (path : PathBytes) (change : Change) (room : HasRoom limits (suc files) s) where
  -- the ticket that is drawn, and the state with it open
  abbrev next_ticket : Ticket
  next_ticket = record { number = s.drawn + 1; path = path }

  abbrev with_ticket : State
  with_ticket = record s { drawn = s.drawn + 1; tickets = next_ticket ∷ [] }

  draws : step s (event.Draw path) ≡ record { reply = reply.Ticket (s.drawn + 1); state = with_ticket }
  draws =
      let few = room.tickets in
      let below : nat_lt s.drawn s.limits.tickets ≡ true = rw room.same (lt-ltb s.drawn limits.tickets (omega arith)) in
      rw (below, room.open_tickets) refl

  fits : (o : Option Stamp) → stamp_at s.stamps path ≡ o → commit_over with_ticket next_ticket change o ≡ committed with_ticket next_ticket change
  fits (Some stamp) h =
      let old = found_older s.stamps s.drawn path stamp room.older h in
      let late : nat_lt (s.drawn + 1) stamp.ticket ≡ false = le-ltb (s.drawn + 1) stamp.ticket (omega arith) in
      rw late refl
  fits None h =
      let few = room.paths in
      let below : nat_lt (length s.stamps) s.limits.paths ≡ true = rw room.same (lt-ltb (length s.stamps) limits.paths (omega arith)) in
      rw below refl

  commits : step with_ticket (event.Commit (s.drawn + 1) change) ≡ committed with_ticket next_ticket change
  commits =
      let found : ticket_at (next_ticket ∷ []) (s.drawn + 1) ≡ Some next_ticket = rw (eq-eqb (s.drawn + 1) (s.drawn + 1) refl) refl in
      ap (commit with_ticket change) found ∙ fits (stamp_at s.stamps path) refl

  pub state_after : imported s path change ≡ (committed with_ticket next_ticket change).state
  state_after = ap (λ (o : StepResult). (step o.state (event.Commit (s.drawn + 1) change)).state) draws ∙ ap (λ (o : StepResult). o.state) commits

  room_after : HasRoom limits files (committed with_ticket next_ticket change).state
  room_after =
      let new : Stamp = record { path = path; ticket = s.drawn + 1 } in
      let more = one_more s.stamps new in
      let few_tickets = room.tickets in
      let few_paths = room.paths in
      record {
        same = room.same;
        open_tickets = rw (eq-eqb (s.drawn + 1) (s.drawn + 1) refl) refl;
        older = stamped_older s.stamps new (all_map (λ (x : Stamp). x.ticket ≤ s.drawn) (λ (x : Stamp). x.ticket ≤ s.drawn + 1) (λ x h. omega arith) s.stamps room.older);
        tickets = omega arith;
        paths = omega arith;
      }

  pub next_accepted : IsAccepted limits files s path change
  next_accepted =
      record {
        ticket = ap (λ (o : StepResult). o.reply) draws;
        committed = ap (λ (o : StepResult). (step o.state (event.Commit (s.drawn + 1) change)).reply) draws ∙ ap (λ (o : StepResult). o.reply) commits;
        room = subst (HasRoom limits files) (sym state_after) room_after;
      }

pub opening_room : (limits : Limits) (files : ℕ) → files ≤ limits.tickets → files ≤ limits.paths → HasRoom limits files (opening limits)
opening_room limits files tickets paths = record { same = refl; open_tickets = refl; older = tt; tickets = omega arith; paths = omega arith }

-- where as many versions were made as tickets were drawn
accepted_in_turn : (limits : Limits) (files : List (PathBytes × Change)) (s : State) (drawn : ℕ) → s.drawn ≡ drawn → s.version ≡ drawn → HasRoom limits (length files) s
    → (run_from s (imports drawn files)).replies ≡ acceptances drawn files
accepted_in_turn limits [] s drawn d v room = refl
accepted_in_turn limits (file ∷ files) s drawn d v room =
    subst (λ m. (run_from s (imports m (file ∷ files))).replies ≡ acceptances m (file ∷ files)) d
    (let a = next_accepted limits (length files) s file.0 file.1 room in
    let is = state_after limits (length files) s file.0 file.1 room in
    let left = run_from (imported s file.0 file.1) (imports (s.drawn + 1) files) in
    let same : s.version + 1 ≡ s.drawn + 1 = ap (λ m. m + 1) (v ∙ sym d) in
    let rest =
    accepted_in_turn limits files (imported s file.0 file.1) (s.drawn + 1) (ap (λ (x : State). x.drawn) is) (ap (λ (x : State). x.version) is ∙ same) a.room in
    ap (λ (r : Reply). r ∷ (step (step s (event.Draw file.0)).state (event.Commit (s.drawn + 1) file.1)).reply ∷ left.replies) a.ticket
    ∙ ap (λ (r : Reply). reply.Ticket (s.drawn + 1) ∷ r ∷ left.replies) (a.committed ∙ ap reply.Committed same)
    ∙ ap (λ (rs : List Reply). reply.Ticket (s.drawn + 1) ∷ reply.Committed (s.drawn + 1) ∷ rs) rest)

pub all_accepted : (limits : Limits) (files : List (PathBytes × Change)) → length files ≤ limits.tickets → length files ≤ limits.paths → (run limits (imports 0 files)).replies ≡ acceptances 0 files
all_accepted limits files tickets paths = accepted_in_turn limits files (opening limits) 0 refl refl (opening_room limits (length files) tickets paths)

pub standard_accepted : (files : List (PathBytes × Change)) → length files ≤ 1_000_000 → (run standard (imports 0 files)).replies ≡ acceptances 0 files
standard_accepted files few = all_accepted standard files (omega arith) few
