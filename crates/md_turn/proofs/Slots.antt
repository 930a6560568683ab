-- The value that a seat has taken, before and after an act on it.
use Rattle.std.proofs.Common.{◌≡◌, ℕ, ◌+◌, List, [], ◌∷◌, ◌++◌, length, sym, ap, ◌∙◌, subst, arith, true, false, length-append, Option, Some, Result, Ok, Err, IfOk, IfErr, OnOk, OnErr}
use Rattle.atomic_table.specs.Table.{rest, Me}
use Rattle.md_machine.specs.declared.Event.{Event}
use Rattle.md_machine.specs.declared.Reply.{Reply}
use Rattle.md_turn.specs.declared.journal.JournalEntry.{JournalEntry}
use Rattle.md_turn.specs.declared.journaled.Journaled.{Journaled}
use Rattle.md_turn.specs.declared.rule.View.{View}
use Rattle.md_machine.specs.States.{State as ServerState}
use Rattle.md_machine.specs.Steps.{step}
use Rattle.md_turn.specs.Journal.{entry, after, Legal, Apart}
use Rattle.md_turn.specs.Turns.{Follows, Takes, view, resting}
use Rattle.md_turn.specs.Acts.{journal_of, state_of, Carries, Rests, Acted, Unacted}
use Rattle.md_turn.proofs.Journals.{after_append, legal_push}
use Rattle.md_turn.proofs.Runs.{legal_journal}

module _ {C : Type 0} (state : C → ServerState) (opening : ServerState) where
  same_value : (carried : List (ℕ × Option (Journaled C))) (h k : Journaled C) (x : Option (Journaled C)) → carried ≡ (0, Some h) ∷ [] → carried ≡ (0, x) ∷ rest carried → x ≡ Some k → h ≡ k
  same_value carried h k x p q r =
      let a : ℕ × Option (Journaled C) = (0, Some h) in
      let b : ℕ × Option (Journaled C) = (0, x) in
      let pairs : a ≡ b = cc in
      let values : Some h ≡ x = ap (λ (z : ℕ × Option (Journaled C)). z.1) pairs in
      cc

  pub carried_follows : (js : List JournalEntry) (carried : List (ℕ × Option (Journaled C))) (x : Option (Journaled C)) (k : Journaled C) → Carries state opening js carried → carried ≡ (0, x) ∷ rest carried → x ≡ Some k → Follows step journal_of (state_of state) opening js k
  carried_follows js carried x k c q r = subst (Follows step journal_of (state_of state) opening js) (same_value carried c.0 k x c.1 q r) c.2

  pub journaled_acted : (js : List JournalEntry) (h k : Journaled C) (event : Event) (carried : List (ℕ × Option (Journaled C))) (r : Result (ℕ × Reply) Event) → Follows step journal_of (state_of state) opening js h → carried ≡ (0, Some k) ∷ []
      → IfOk r (λ r. r.0 ≡ length h.journal.items + 1)
      → IfOk r (λ r. r.1 ≡ (step (state h.core) event).reply)
      → IfOk r (λ r. k.journal.items ≡ h.journal.items ++ entry r.0 event r.1 ∷ [])
      → OnOk r (state k.core ≡ (step (state h.core) event).state)
      → IfOk r (λ r. Carries state opening (js ++ entry r.0 event r.1 ∷ []) carried × (r.0 ≡ length js + 1) × (r.1 ≡ (step (after step opening js) event).reply))
  journaled_acted js h k event carried (Ok r) f is place reply journal after_is = (
    (k, is, (journal ∙ ap (λ (xs : List JournalEntry). xs ++ entry r.0 event r.1 ∷ []) f.0, after_is ∙ ap (λ (s : ServerState). (step s event).state) f.1 ∙ sym (after_append step opening js (entry r.0 event r.1 ∷ [])))),
    place ∙ ap (λ (xs : List JournalEntry). length xs + 1) f.0,
    reply ∙ ap (λ (s : ServerState). (step s event).reply) f.1,
  )
  journaled_acted js h k event carried (Err e) f is place reply journal after_is = tt

  pub journaled_refused : (js : List JournalEntry) (h k : Journaled C) (event : Event) (carried : List (ℕ × Option (Journaled C))) (r : Result (ℕ × Reply) Event) → Follows step journal_of (state_of state) opening js h → carried ≡ (0, Some k) ∷ []
      → IfErr r (λ e. e ≡ event) → OnErr r (k.journal.items ≡ h.journal.items) → OnErr r (state k.core ≡ state h.core)
      → IfErr r (λ e. (e ≡ event) × Carries state opening js carried)
  journaled_refused js h k event carried (Ok r) f is back entries same = tt
  journaled_refused js h k event carried (Err e) f is back entries same = (back, (k, is, (entries ∙ f.0, same ∙ f.1)))

  -- what a seat has and holds when its turn has come
  pub taken_is : (me m w : Me (Option (Journaled C)) View) (ticket : ℕ) → m ≡ (view me.0.share me.0.seen me.0.compared me.0.own me.0.refused true ticket false, []) → (t : Takes step journal_of (state_of state) opening m w)
      → w ≡ (view me.0.share (me.0.seen ++ t.others) me.0.compared me.0.own me.0.refused true ticket true, (0, Some t.value) ∷ [])
  taken_is me m w ticket e t = t.after_is ∙ ap (λ (n : Me (Option (Journaled C)) View). (view n.0.share (n.0.seen ++ t.others) n.0.compared n.0.own n.0.refused true n.0.ticket true, (0, Some t.value) ∷ n.1)) e

  pub taken_carries : (me m w : Me (Option (Journaled C)) View) (ticket : ℕ) → m ≡ (view me.0.share me.0.seen me.0.compared me.0.own me.0.refused true ticket false, []) → Takes step journal_of (state_of state) opening m w → Carries state opening w.0.seen w.1
  taken_carries me m w ticket e t = (
    t.value,
    ap (λ (n : Me (Option (Journaled C)) View). n.1) (taken_is me m w ticket e t),
    subst (λ js. Follows step journal_of (state_of state) opening js t.value) (sym (ap (λ (n : Me (Option (Journaled C)) View). n.0.seen) t.after_is)) t.follows,
  )

  pub made_ready : (v w : View) (event : Event) (r : ℕ × Reply) (carried : List (ℕ × Option (Journaled C))) → w ≡ v → v.holds ≡ true
      → Carries state opening (v.seen ++ entry r.0 event r.1 ∷ []) carried × (r.0 ≡ length v.seen + 1) × (r.1 ≡ (step (after step opening v.seen) event).reply)
      → (w.holds ≡ true) × ((e : JournalEntry) × Carries state opening (w.seen ++ e ∷ []) carried × (e.place ≡ length w.seen + 1) × (e.reply ≡ (step (after step opening w.seen) e.event).reply))
  made_ready v w event r carried same holds x =
      subst (λ (u : View). (u.holds ≡ true) × ((e : JournalEntry) × Carries state opening (u.seen ++ e ∷ []) carried × (e.place ≡ length u.seen + 1) × (e.reply ≡ (step (after step opening u.seen) e.event).reply))) (sym same)
      (holds, (entry r.0 event r.1, x.0, x.1, x.2))

  pub unmade_ready : (v w : View) (carried : List (ℕ × Option (Journaled C))) → w ≡ v → v.holds ≡ true → Carries state opening v.seen carried → (w.holds ≡ true) × Carries state opening w.seen carried
  unmade_ready v w carried same holds x = subst (λ (u : View). (u.holds ≡ true) × Carries state opening u.seen carried) (sym same) (holds, x)

  pub taken_holds : (m w : Me (Option (Journaled C)) View) → Takes step journal_of (state_of state) opening m w → w.0.holds ≡ true
  taken_holds m w t = ap (λ (n : Me (Option (Journaled C)) View). n.0.holds) t.after_is

  pub acted : (me m w p : Me (Option (Journaled C)) View) (a : View) (carried : List (ℕ × Option (Journaled C))) (ticket : ℕ) (event : Event) (r : ℕ × Reply)
      → m ≡ (view me.0.share me.0.seen me.0.compared me.0.own me.0.refused true ticket false, [])
      → Takes step journal_of (state_of state) opening m w
      → a ≡ w.0
      → Carries state opening (w.0.seen ++ entry r.0 event r.1 ∷ []) carried × (r.0 ≡ length w.0.seen + 1) × (r.1 ≡ (step (after step opening w.0.seen) event).reply)
      → ((e : JournalEntry) → Carries state opening (a.seen ++ e ∷ []) carried → p ≡ (resting a.share (a.seen ++ e ∷ []) a.compared (a.own ++ e ∷ []) a.refused, []))
      → (Rests p × (p.0.share ≡ me.0.share)) × (Acted opening me.0.seen me.0.own p.0.seen p.0.own event r.0 r.1 × (p.0.refused ≡ me.0.refused))
  acted me m w p a carried ticket event r drawn t same x left =
      let e : JournalEntry = entry r.0 event r.1 in
      let F : View → Me (Option (Journaled C)) View = λ v. (resting v.share (v.seen ++ e ∷ []) v.compared (v.own ++ e ∷ []) v.refused, []) in
      let taken = taken_is me m w ticket drawn t in
      let final : p ≡ (resting me.0.share ((me.0.seen ++ t.others) ++ e ∷ []) me.0.compared (me.0.own ++ e ∷ []) me.0.refused, []) =
      left e (subst (λ (v : View). Carries state opening (v.seen ++ e ∷ []) carried) (sym same) x.0) ∙ ap F same ∙ ap (λ (n : Me (Option (Journaled C)) View). F n.0) taken in
      let seen : p.0.seen ≡ (me.0.seen ++ t.others) ++ e ∷ [] = ap (λ (n : Me (Option (Journaled C)) View). n.0.seen) final in
      let before : w.0.seen ≡ me.0.seen ++ t.others = ap (λ (n : Me (Option (Journaled C)) View). n.0.seen) taken in
      let was : m.0.seen ≡ me.0.seen = ap (λ (n : Me (Option (Journaled C)) View). n.0.seen) drawn in
      let legal : Legal step 0 opening (me.0.seen ++ t.others) = subst (λ js. Legal step 0 opening (js ++ t.others)) was t.legal in
      let place : r.0 ≡ length (me.0.seen ++ t.others) + 1 = x.1 ∙ ap (λ (js : List JournalEntry). length js + 1) before in
      let reply : r.1 ≡ (step (after step opening (me.0.seen ++ t.others)) event).reply = x.2 ∙ ap (λ (js : List JournalEntry). (step (after step opening js) event).reply) before in
      let full : Legal step 0 opening ((me.0.seen ++ t.others) ++ e ∷ []) = legal_push step 0 opening (me.0.seen ++ t.others) e legal (omega arith) reply in
      let len : length ((me.0.seen ++ t.others) ++ e ∷ []) ≡ length (me.0.seen ++ t.others) + 1 = length-append (me.0.seen ++ t.others) (e ∷ []) in (
        ((ap (λ (n : Me (Option (Journaled C)) View). n.0.waits) final, ap (λ (n : Me (Option (Journaled C)) View). n.0.holds) final, ap (λ (n : Me (Option (Journaled C)) View). n.1) final), ap (λ (n : Me (Option (Journaled C)) View). n.0.share) final),
        (
          record {
            others = t.others;
            seen_is = seen;
            place_is = place ∙ sym len ∙ ap length (sym seen);
            legal = legal_journal opening p.0.seen (subst (Legal step 0 opening) (sym seen) full);
            own_is = ap (λ (n : Me (Option (Journaled C)) View). n.0.own) final;
            apart = subst (λ own. Apart own t.others) (ap (λ (n : Me (Option (Journaled C)) View). n.0.own) drawn) t.apart;
          },
          ap (λ (n : Me (Option (Journaled C)) View). n.0.refused) final,
        ),
      )

  pub unacted : (me m w p : Me (Option (Journaled C)) View) (a : View) (ticket : ℕ)
      → m ≡ (view me.0.share me.0.seen me.0.compared me.0.own me.0.refused true ticket false, [])
      → Takes step journal_of (state_of state) opening m w
      → a ≡ w.0
      → p ≡ (resting a.share a.seen a.compared a.own (a.refused + 1), [])
      → (Rests p × (p.0.share ≡ me.0.share)) × (Unacted opening me.0.seen me.0.own p.0.seen p.0.own × (p.0.refused ≡ me.0.refused + 1))
  unacted me m w p a ticket drawn t same left =
      let F : View → Me (Option (Journaled C)) View = λ v. (resting v.share v.seen v.compared v.own (v.refused + 1), []) in
      let taken = taken_is me m w ticket drawn t in
      let final : p ≡ (resting me.0.share (me.0.seen ++ t.others) me.0.compared me.0.own (me.0.refused + 1), []) =
      left ∙ ap F same ∙ ap (λ (n : Me (Option (Journaled C)) View). F n.0) taken in
      let seen : p.0.seen ≡ me.0.seen ++ t.others = ap (λ (n : Me (Option (Journaled C)) View). n.0.seen) final in
      let was : m.0.seen ≡ me.0.seen = ap (λ (n : Me (Option (Journaled C)) View). n.0.seen) drawn in
      let legal : Legal step 0 opening (me.0.seen ++ t.others) = subst (λ js. Legal step 0 opening (js ++ t.others)) was t.legal in (
        ((ap (λ (n : Me (Option (Journaled C)) View). n.0.waits) final, ap (λ (n : Me (Option (Journaled C)) View). n.0.holds) final, ap (λ (n : Me (Option (Journaled C)) View). n.1) final), ap (λ (n : Me (Option (Journaled C)) View). n.0.share) final),
        (
          record {
            others = t.others;
            seen_is = seen;
            legal = legal_journal opening p.0.seen (subst (Legal step 0 opening) (sym seen) legal);
            own_is = ap (λ (n : Me (Option (Journaled C)) View). n.0.own) final;
            apart = subst (λ own. Apart own t.others) (ap (λ (n : Me (Option (Journaled C)) View). n.0.own) drawn) t.apart;
          },
          ap (λ (n : Me (Option (Journaled C)) View). n.0.refused) final,
        ),
      )
