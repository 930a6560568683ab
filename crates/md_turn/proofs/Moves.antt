-- Each step keeps the rule of the lock.
use Rattle.std.proofs.Common.{◌≡◌, ◌≢◌, ◌⊎◌, inl, inr, ℕ, zero, suc, ◌+◌, ◌-◌, ◌<◌, ◌≤◌, ◌%◌, ◌==◌, true, false, true≢false, List, [], ◌∷◌, ◌++◌, length, All, set, refl, sym, ap, ◌∙◌, subst, ⊎_elim, arith, Option, Some, if◌then◌else◌, length-append, eqb-true, eq-eqb, map}
use Rattle.std.proofs.lemmas.Bool.{cases_Bool, cases_order}
use Rattle.std.proofs.lemmas.List.Elements.{All-push, All-nil}
use Rattle.std.specs.List.{slice_index}
use mathlib.Core.Option.{some, some-ne-none, some-injective}
use lib.ListN.{get_elem?}
use Rattle.atomic_table.proofs.Lists.{at_set, at_snoc, set_again, set_else, set_here, at_longer}
use Rattle.atomic_table.specs.Table.{State, Me, Step, Act, keeps, takes, gives, Allows, Splits, Joins, Valid, carried_after, homes_after, put_back, rest, Seen}
use Rattle.md_machine.specs.declared.Event.{Event}
use Rattle.md_machine.specs.States.{State as ServerState}
use Rattle.md_machine.specs.Steps.{StepResult}
use Rattle.md_turn.specs.declared.journal.JournalEntry.{JournalEntry}
use Rattle.md_turn.specs.declared.rule.View.{View}
use Rattle.md_turn.specs.Journal.{after, Legal, IsPrefix, Has, total_of, times, once_below, longer}
use Rattle.md_turn.specs.Turns.{whole_share, view, resting, spent_view, made, waiting, acts, Fine, Queued, Sums, Follows, Kept, Draws, Takes, Looked, Looks, Leaves, Refuses, Compares, Closes, cut, cut_off, joined}
use Rattle.md_turn.specs.Listed.{Listed}
use Rattle.md_turn.proofs.Journals.{total_snoc, sum_set, sums_le, sums_room, prefix_refl, prefix_trans, prefix_append, prefix_both, snoc_injective, at_below, at_end, legal_push, legal_rest, places_above, has_more, apart_behind, once_more, total_merge, length_merge, all_merge, longer_either, shorter_either, prefix_longer, times_le, none_below}

-- a fact of each view after a change of one
pub each_set : (P : ℕ → View → Type 0) (views : List View) (id : ℕ) (w : View) → ((j : ℕ) (u : View) → j ≢ id → get_elem? views j ≡ some u → P j u) → P id w → (j : ℕ) (u : View) → get_elem? (set views id w) j ≡ some u → P j u
each_set P views id w others mine j u e =
    ⊎_elim (λ (t : (j ≡ id) × (w ≡ u)). subst (λ (y : ℕ × View). P y.0 y.1) (λ i. (sym t.0 i, t.1 i)) mine) (λ (t : (j ≢ id) × (get_elem? views j ≡ some u)). others j u t.0 t.1) (at_set views id j w u e)

same_or : (i j : ℕ) → (i ≡ j) ⊎ (i ≢ j)
same_or i j =
    elim (cases_order i j) [
      | inl e ↦ inl e
      | inr (inl lt) ↦ inr (λ e. omega arith)
      | inr (inr gt) ↦ inr (λ e. omega arith)
    ]

else_at : (views : List View) (i j : ℕ) (w u : View) → j ≢ i → get_elem? views j ≡ some u → get_elem? (set views i w) j ≡ some u
else_at views i j w u far e = set_else views i j w far ∙ e

off : false ≡ true → ⊥
off e = true≢false (sym e)

wait_0 : (v : View) → v.waits ≡ false → waiting v ≡ 0
wait_0 v e = ap (λ b. if b then 1 else 0) e

wait_1 : (v : View) → v.waits ≡ true → waiting v ≡ 1
wait_1 v e = ap (λ b. if b then 1 else 0) e

same_view : (views : List View) (id j : ℕ) (v u : View) → get_elem? views id ≡ some v → get_elem? views j ≡ some u → j ≡ id → v ≡ u
same_view views id j v u at e same = some-injective v u (sym at ∙ subst (λ k. get_elem? views k ≡ some u) same e)

-- the queue after a change of one view, whose ticket no other has
queued_set : (views : List View) (id : ℕ) (w : View) → Queued views → ((j : ℕ) (u : View) → j ≢ id → get_elem? views j ≡ some u → w.waits ≡ true → u.waits ≡ true → w.ticket ≡ u.ticket → ⊥) → Queued (set views id w)
queued_set views id w q mine i j x y p r =
    each_set (λ i x. x.waits ≡ true → y.waits ≡ true → x.ticket ≡ y.ticket → i ≡ j) views id w
    (λ i x far p. each_set (λ j y. x.waits ≡ true → y.waits ≡ true → x.ticket ≡ y.ticket → i ≡ j) views id w
    (λ j y _ r k l e. q i j x y p r k l e)
    (λ k l e. absurd (mine i x far p l k (sym e))) j y r)
    (each_set (λ j y. w.waits ≡ true → y.waits ≡ true → w.ticket ≡ y.ticket → id ≡ j) views id w
    (λ j y far r k l e. absurd (mine j y far r k l e))
    (λ _ _ _. refl) j y r) i x p

queued_snoc : (views : List View) (w : View) → Queued views → w.waits ≡ false → Queued (views ++ w ∷ [])
queued_snoc views w q idle i j x y p r k l e =
    ⊎_elim
    (λ (a : get_elem? views i ≡ some x). ⊎_elim
    (λ (b : get_elem? views j ≡ some y). q i j x y a b k l e)
    (λ (b : w ≡ y). absurd (off (sym idle ∙ ap (λ (u : View). u.waits) b ∙ l)))
    (at_snoc views w y j r))
    (λ (a : w ≡ x). absurd (off (sym idle ∙ ap (λ (u : View). u.waits) a ∙ k)))
    (at_snoc views w x i p)

-- where no view holds after a change of one that did not hold, none held before
none_before : (views : List View) (id : ℕ) (v w : View) → get_elem? views id ≡ some v → v.holds ≡ false → ((j : ℕ) (u : View) → get_elem? (set views id w) j ≡ some u → u.holds ≡ false) → (j : ℕ) (u : View) → get_elem? views j ≡ some u → u.holds ≡ false
none_before views id v w at holds none j u e = ⊎_elim
    (λ (same : j ≡ id). ap (λ (x : View). x.holds) (sym (same_view views id j v u at e same)) ∙ holds)
    (λ (far : j ≢ id). none j u (else_at views id j w u far e))
    (same_or j id)

-- the sums after a change of one view
sums_set : (t t' n n' : ℕ) (js js' : List JournalEntry) (views : List View) (id : ℕ) (v w : View) → Sums t n js views → get_elem? views id ≡ some v → w.share ≡ v.share → acts w + t ≡ acts v + t' → made w + n ≡ made v + n' → w.refused + n + length js' ≡ v.refused + n' + length js → ((i : ℕ) → times i w.own + once_below i (length js) ≡ times i v.own + once_below i (length js')) → Sums t' n' js' (set views id w)
sums_set t t' n n' js js' views id v w s at same drawn served counted owned = record {
  shares = (let a = sum_set (λ (u : View). u.share) views id v w at in omega (arith, s.shares));
  drawn = (let a = sum_set acts views id v w at in omega (arith, s.drawn));
  served = (let a = sum_set made views id v w at in omega (arith, s.served));
  counted = (let a = sum_set (λ (u : View). u.refused) views id v w at in omega (arith, s.counted));
  owned = λ i. (let a = sum_set (λ (u : View). times i u.own) views id v w at in omega (arith, s.owned i, owned i));
}

-- what holds of a view stays while the journal grows and it holds no turn
fine_later : (t t' n n' : ℕ) (js js' : List JournalEntry) (u : View) → t ≤ t' → IsPrefix js js' → (u.waits ≡ true → n' ≤ u.ticket) → (u.holds ≡ true → (n' ≡ n) × (js' ≡ js)) → Fine t n js u → Fine t' n' js' u
fine_later t t' n n' js js' u le more waits holds f = record {
  room = f.room;
  queue = λ k. (waits k, (let q = f.queue k in omega arith));
  turn = λ k. (let q = f.turn k in (q.0, q.1 ∙ sym (holds k).0, q.2 ∙ sym (holds k).1));
  seen = prefix_trans u.seen js js' f.seen more;
  compared = prefix_trans u.compared js js' f.compared more;
  own = f.own;
}

module _ (machine : ServerState → Event → StepResult) {H : Type 0} (journal_of : H → List JournalEntry) (state_of : H → ServerState) (opening : ServerState) where
  pub draws : (slots id : ℕ) (me : Me (Option H) View) (st : Step (Option H)) → me.0.waits ≡ false → me.0.holds ≡ false → made me.0 < me.0.share → Allows (Kept machine journal_of state_of opening) slots id me 0 (λ n. (n + 1) % 18446744073709551616) (Draws st me)
  draws slots id me st waits holds room s h homes at word =
      let v = me.0 in
      let w = view v.share v.seen v.compared v.own v.refused true h.ticket false in
      let z = wait_0 v waits in
      let f = h.each id v at in
      let found : slice_index s.words 0 ≡ h.ticket = ap (λ ws. slice_index ws 0) h.words_are in
      let bound = sums_room acts (λ (u : View). u.share) s.views (λ j u e. (h.each j u e).room) id v at in
      let fits : h.ticket + 1 ≤ whole_share = omega (arith, h.sums.drawn, h.sums.shares) in
      let words : set s.words 0 ((slice_index s.words 0 + 1) % 18446744073709551616) ≡ (h.ticket + 1) ∷ h.serving ∷ [] =
      ap (λ ws. set ws 0 ((slice_index ws 0 + 1) % 18446744073709551616)) h.words_are ∙ (let m : (h.ticket + 1) % 18446744073709551616 ≡ h.ticket + 1 = omega arith in ap (λ k. k ∷ h.serving ∷ []) m) in
      let served : h.serving ≤ h.ticket = omega (arith, sums_le made acts s.views (λ j u e. omega arith), h.sums.served, h.sums.drawn) in (
        w,
        keeps,
        tt,
        record {
          ticket = h.ticket + 1;
          serving = h.serving;
          journal = h.journal;
          words_are = words;
          legal = h.legal;
          sums = sums_set h.ticket (h.ticket + 1) h.serving h.serving h.journal h.journal s.views id v w h.sums at refl (omega arith) refl refl (λ i. refl);
          each = each_set (λ j u. Fine (h.ticket + 1) h.serving h.journal u) s.views id w
              (λ j u _ e. let g = h.each j u e in fine_later h.ticket (h.ticket + 1) h.serving h.serving h.journal h.journal u (omega arith) (prefix_refl h.journal) (λ k. (g.queue k).0) (λ _. (refl, refl)) g)
              record {
                room = omega arith;
                queue = λ _. (served, omega arith);
                turn = λ k. absurd (off k);
                seen = f.seen;
                compared = f.compared;
                own = f.own;
              };
          queued = queued_set s.views id w h.queued (λ j u _ e _ k same. let q = (h.each j u e).queue k in omega arith);
          idle = λ none. h.idle (none_before s.views id v w at holds none);
        },
        ap (λ n. (view v.share v.seen v.compared v.own v.refused true n false, me.1)) (sym found),
      )

  -- where it is the turn of one view, no other holds
  alone : (s : State (Option H) View) (h : Kept machine journal_of state_of opening s) (id : ℕ) (v : View) → get_elem? s.views id ≡ some v → v.waits ≡ true → v.ticket ≡ h.serving → (j : ℕ) (u : View) → j ≢ id → get_elem? s.views j ≡ some u → u.holds ≡ false
  alone s h id v at waits mine j u far e =
      elim (cases_Bool u.holds) [
        | inl journaled ↦ let t = (h.each j u e).turn journaled in absurd (far (h.queued j id u v e at t.0 waits (t.1 ∙ sym mine)))
        | inr not ↦ not
      ]

  none_holds : (s : State (Option H) View) (h : Kept machine journal_of state_of opening s) (id : ℕ) (v : View) → get_elem? s.views id ≡ some v → v.waits ≡ true → v.holds ≡ false → v.ticket ≡ h.serving → (j : ℕ) (u : View) → get_elem? s.views j ≡ some u → u.holds ≡ false
  none_holds s h id v at waits holds mine j u e =
      ⊎_elim (λ (same : j ≡ id). ap (λ (x : View). x.holds) (sym (same_view s.views id j v u at e same)) ∙ holds) (λ (far : j ≢ id). alone s h id v at waits mine j u far e) (same_or j id)

  Then : State (Option H) View → ℕ → Me (Option H) View → Step (Option H) → ℕ → Type 0
  Then s id me st found = (w : View) × (a : Act (Option H)) × Valid s.homes me.1 a × Kept machine journal_of state_of opening record { words = s.words; homes = homes_after s.homes me.1 a; views = set s.views id w } × Looks machine journal_of state_of opening st me found (w, carried_after me.1 a)

  takes_turn : (s : State (Option H) View) (h : Kept machine journal_of state_of opening s) (id : ℕ) (me : Me (Option H) View) (st : Step (Option H)) → get_elem? s.views id ≡ some me.0 → me.0.waits ≡ true → me.0.holds ≡ false → me.0.ticket ≡ h.serving → (h.serving == me.0.ticket) ≡ true → Then s id me st h.serving
  unfolding Then
  takes_turn s h id me st at waits holds mine test =
      let v = me.0 in
      let f = h.each id v at in
      let others = f.seen.0 in
      let all : h.journal ≡ v.seen ++ others = f.seen.1 in
      let w = view v.share (v.seen ++ others) v.compared v.own v.refused true v.ticket true in
      let home = h.idle (none_holds s h id v at waits holds mine) in
      let z = wait_1 v waits in
      let own : All (Has (v.seen ++ others)) v.own = has_more v.seen (v.seen ++ others) (prefix_append v.seen others) v.own f.own in
      let legal : Legal machine 0 opening (v.seen ++ others) = subst (Legal machine 0 opening) all h.legal in
      let above : All (λ (e : JournalEntry). length v.seen < e.place) others = places_above machine (length v.seen) (0 + length v.seen) (after machine opening v.seen) others (omega arith) (legal_rest machine 0 opening v.seen others legal) in (
        w,
        takes 0 (Some home.0),
        ap (λ hs. get_elem? hs 0) home.1,
        record {
          ticket = h.ticket;
          serving = h.serving;
          journal = h.journal;
          words_are = h.words_are;
          legal = h.legal;
          sums = sums_set h.ticket h.ticket h.serving h.serving h.journal h.journal s.views id v w h.sums at refl (omega arith) refl refl (λ i. refl);
          each = each_set (λ j u. Fine h.ticket h.serving h.journal u) s.views id w (λ j u _ e. h.each j u e)
              record {
                room = (let r = f.room in omega arith);
                queue = λ _. f.queue waits;
                turn = λ _. (refl, mine, sym all);
                seen = subst (λ js. IsPrefix js h.journal) all (prefix_refl h.journal);
                compared = f.compared;
                own = own;
              };
          queued = queued_set s.views id w h.queued (λ j u far e _ k same. far (h.queued j id u v e at k waits (sym same)));
          idle = λ none. absurd (off (sym (none id w (set_here s.views id w (at_below s.views id v at)))));
        },
        subst (λ b. Looked machine journal_of state_of opening b me (w, (0, Some home.0) ∷ me.1)) (sym test) record {
          value = home.0;
          others = others;
          after_is = refl;
          follows = subst (λ js. Follows machine journal_of state_of opening js home.0) all home.2;
          legal = legal;
          apart = apart_behind v.seen v.own others f.own above;
        },
      )

  waits_on : (s : State (Option H) View) (h : Kept machine journal_of state_of opening s) (id : ℕ) (me : Me (Option H) View) (st : Step (Option H)) → get_elem? s.views id ≡ some me.0 → (h.serving == me.0.ticket) ≡ false → Then s id me st h.serving
  unfolding Then
  waits_on s h id me st at test = (
    me.0,
    keeps,
    tt,
    subst (λ vs. Kept machine journal_of state_of opening record { words = s.words; homes = s.homes; views = vs }) (sym (set_again s.views id me.0 at)) h,
    subst (λ b. Looked machine journal_of state_of opening b me (me.0, me.1)) (sym test) refl,
  )

  pub looks : (slots id : ℕ) (me : Me (Option H) View) (st : Step (Option H)) → me.0.waits ≡ true → me.0.holds ≡ false → Allows (Kept machine journal_of state_of opening) slots id me 1 (λ n. n) (Looks machine journal_of state_of opening st me)
  unfolding Then
  looks slots id me st waits holds s h homes at word =
      let found : slice_index s.words 1 ≡ h.serving = ap (λ ws. slice_index ws 1) h.words_are in
      let words : set s.words 1 (slice_index s.words 1) ≡ s.words = ap (λ l. set l 1 (slice_index l 1)) h.words_are ∙ sym h.words_are in
      let P : List ℕ × ℕ → Type 0 = λ y. (w : View) × (a : Act (Option H)) × Valid s.homes me.1 a × Kept machine journal_of state_of opening record { words = y.0; homes = homes_after s.homes me.1 a; views = set s.views id w } × Looks machine journal_of state_of opening st me y.1 (w, carried_after me.1 a) in
      subst P (λ i. (sym words i, sym found i)) (elim (cases_Bool (h.serving == me.0.ticket)) [
        | inl t ↦ takes_turn s h id me st at waits holds (sym (eqb-true h.serving me.0.ticket t)) t
        | inr f ↦ waits_on s h id me st at f
      ])

  -- the same where the play names the opening state by another term
  pub looks_as : (named : ServerState) → opening ≡ named → (slots id : ℕ) (me : Me (Option H) View) (st : Step (Option H)) → me.0.waits ≡ true → me.0.holds ≡ false → Allows (Kept machine journal_of state_of opening) slots id me 1 (λ n. n) (Looks machine journal_of state_of named st me)
  looks_as named same slots id me st waits holds = subst (λ o. Allows (Kept machine journal_of state_of opening) slots id me 1 (λ n. n) (Looks machine journal_of state_of o st me)) same (looks slots id me st waits holds)

  pub looked_mine : (found ticket : ℕ) (v u w : Me (Option H) View) → found ≡ ticket → u.0.ticket ≡ ticket → v ≡ u → Looked machine journal_of state_of opening (found == v.0.ticket) v w → Takes machine journal_of state_of opening u w
  looked_mine found ticket v u w is mine same named =
      let at : found ≡ v.0.ticket = is ∙ sym mine ∙ ap (λ (m : Me (Option H) View). m.0.ticket) (sym same) in
      subst (λ m. Takes machine journal_of state_of opening m w) same (subst (λ b. Looked machine journal_of state_of opening b v w) (eq-eqb found v.0.ticket at) named)

  one_home : (hs : List (mathlib.Core.Option.Option (Option H))) (x : mathlib.Core.Option.Option (Option H)) → length hs ≡ 1 → set hs 0 x ≡ x ∷ []
  one_home [] x e = absurd (omega arith)
  one_home (y ∷ []) x e = refl
  one_home (y ∷ z ∷ zs) x e = absurd (omega arith)

  same_slot : (carried : List (ℕ × Option H)) (a b : H) → carried ≡ (0, Some a) ∷ [] → carried ≡ (0, Some b) ∷ [] → a ≡ b
  same_slot carried a b p q =
      let x : ℕ × Option H = (0, Some a) in
      let y : ℕ × Option H = (0, Some b) in
      let pairs : x ≡ y = cc in
      let values : Some a ≡ Some b = ap (λ (z : ℕ × Option H). z.1) pairs in
      cc

  -- the rule after the turn is passed on by a view that held it
  passed : (s : State (Option H) View) (h : Kept machine journal_of state_of opening s) (id : ℕ) (me : Me (Option H) View) (w : View) (value : H) (js : List JournalEntry) → length s.homes ≡ 1 → get_elem? s.views id ≡ some me.0 → me.0.holds ≡ true → me.1 ≡ (0, Some value) ∷ []
      → IsPrefix h.journal js → Follows machine journal_of state_of opening js value → Legal machine 0 opening js
      → w.share ≡ me.0.share → w.waits ≡ false → w.holds ≡ false → made w ≡ made me.0 + 1 → w.refused + length js ≡ me.0.refused + 1 + length h.journal
      → ((i : ℕ) → times i w.own + once_below i (length h.journal) ≡ times i me.0.own + once_below i (length js))
      → IsPrefix w.seen js → IsPrefix w.compared js → All (Has w.seen) w.own
      → Kept machine journal_of state_of opening record { words = set s.words 1 ((slice_index s.words 1 + 1) % 18446744073709551616); homes = put_back s.homes me.1; views = set s.views id w }
  passed s h id me w value js one at holds has more follows legal share waits rests count refused owned seen compared own =
      let v = me.0 in
      let f = h.each id v at in
      let t = f.turn holds in
      let q = f.queue t.0 in
      let z = wait_1 v t.0 in
      let y = wait_0 w waits in
      let few : h.serving + 1 < 18446744073709551616 = omega (arith, sums_le acts (λ (u : View). u.share) s.views (λ j u e. (h.each j u e).room), h.sums.drawn, h.sums.shares) in
      let words : set s.words 1 ((slice_index s.words 1 + 1) % 18446744073709551616) ≡ h.ticket ∷ (h.serving + 1) ∷ [] =
      ap (λ ws. set ws 1 ((slice_index ws 1 + 1) % 18446744073709551616)) h.words_are ∙ (let m : (h.serving + 1) % 18446744073709551616 ≡ h.serving + 1 = omega arith in ap (λ k. h.ticket ∷ k ∷ []) m) in
      let home : put_back s.homes me.1 ≡ some (Some value) ∷ [] = ap (put_back s.homes) has ∙ one_home s.homes (some (Some value)) one in
      record {
        ticket = h.ticket;
        serving = h.serving + 1;
        journal = js;
        words_are = words;
        legal = legal;
        sums = sums_set h.ticket h.ticket h.serving (h.serving + 1) h.journal js s.views id v w h.sums at share (omega arith) (omega arith) (omega arith) owned;
        each = each_set (λ j u. Fine h.ticket (h.serving + 1) js u) s.views id w
            (λ j u far e. let g = h.each j u e in fine_later h.ticket h.ticket h.serving (h.serving + 1) h.journal js u (omega arith) more
            (λ k. let p = g.queue k in let differs : u.ticket ≢ h.serving = λ same. far (h.queued j id u v e at k t.0 (same ∙ sym t.1)) in omega arith)
            (λ k. absurd (off (sym (alone s h id v at t.0 t.1 j u far e) ∙ k)))
            g)
            record {
              room = (let r = f.room in omega arith);
              queue = λ k. absurd (off (sym waits ∙ k));
              turn = λ k. absurd (off (sym rests ∙ k));
              seen = seen;
              compared = compared;
              own = own;
            };
        queued = queued_set s.views id w h.queued (λ j u _ e k _ _. off (sym waits ∙ k));
        idle = λ _. (value, home, follows);
      }

  pub leaves : (slots id : ℕ) (me : Me (Option H) View) (st : Step (Option H)) (value : H) (e : JournalEntry) → slots ≡ 1 → me.0.holds ≡ true → me.1 ≡ (0, Some value) ∷ [] → journal_of value ≡ me.0.seen ++ e ∷ [] → state_of value ≡ after machine opening (me.0.seen ++ e ∷ []) → e.place ≡ length me.0.seen + 1 → e.reply ≡ (machine (after machine opening me.0.seen) e.event).reply → Allows (Kept machine journal_of state_of opening) slots id me 1 (λ n. (n + 1) % 18446744073709551616) (Leaves journal_of st me)
  leaves slots id me st value e one holds has is state place reply s h homes at word =
      let v = me.0 in
      let js : List JournalEntry = v.seen ++ e ∷ [] in
      let w = resting v.share js v.compared (v.own ++ e ∷ []) v.refused in
      let f = h.each id v at in
      let t = f.turn holds in
      let same : length h.journal ≡ length v.seen = ap length (sym t.2) in
      let len : length js ≡ length v.seen + 1 = length-append v.seen (e ∷ []) in
      let more : length (v.own ++ e ∷ []) ≡ length v.own + 1 = length-append v.own (e ∷ []) in
      let legal : Legal machine 0 opening js = legal_push machine 0 opening v.seen e (subst (Legal machine 0 opening) (sym t.2) h.legal) (omega arith) reply in
      let begins : IsPrefix h.journal js = subst (λ xs. IsPrefix xs js) t.2 (prefix_append v.seen (e ∷ [])) in
      let owned : (i : ℕ) → times i (v.own ++ e ∷ []) + once_below i (length h.journal) ≡ times i v.own + once_below i (length js) = λ i.
      (let a = total_snoc (λ (x : JournalEntry). if x.place == i + 1 then 1 else 0) v.own e in
      let hit : ℕ → ℕ = λ k. if k == i + 1 then 1 else 0 in
      let b : hit (length v.seen + 1) ≡ hit e.place = ap hit (sym place) in
      let c = once_more i (length v.seen) in
      let d : once_below i (length h.journal) ≡ once_below i (length v.seen) = ap (once_below i) same in
      let g : once_below i (length js) ≡ once_below i (length v.seen + 1) = ap (once_below i) len in
      omega arith) in
      let own : All (Has js) (v.own ++ e ∷ []) = All-push (Has js) v.own e (has_more v.seen js (prefix_append v.seen (e ∷ [])) v.own f.own) (length v.seen, place, at_end v.seen e) in
      let kept = passed s h id me w value js (homes ∙ one) at holds has begins (is, state) legal refl refl refl (omega arith) (omega arith) owned (prefix_refl js) (prefix_trans v.compared h.journal js f.compared begins) own in (
        w,
        gives,
        tt,
        kept,
        λ other d has' is'.
            (let values : value ≡ other = same_slot me.1 value other has has' in
            let entries : e ≡ d = snoc_injective v.seen e d (sym is ∙ ap journal_of values ∙ is') in
            λ i. (resting v.share (v.seen ++ entries i ∷ []) v.compared (v.own ++ entries i ∷ []) v.refused, rest (has i))),
      )

  pub refuses : (slots id : ℕ) (me : Me (Option H) View) (st : Step (Option H)) (value : H) → slots ≡ 1 → me.0.holds ≡ true → me.1 ≡ (0, Some value) ∷ [] → Follows machine journal_of state_of opening me.0.seen value → Allows (Kept machine journal_of state_of opening) slots id me 1 (λ n. (n + 1) % 18446744073709551616) (Refuses st me)
  refuses slots id me st value one holds has follows s h homes at word =
      let v = me.0 in
      let w = resting v.share v.seen v.compared v.own (v.refused + 1) in
      let f = h.each id v at in
      let t = f.turn holds in
      let same : length h.journal ≡ length v.seen = ap length (sym t.2) in
      let begins : IsPrefix h.journal v.seen = subst (λ xs. IsPrefix xs v.seen) t.2 (prefix_refl v.seen) in
      let owned : (i : ℕ) → times i v.own + once_below i (length h.journal) ≡ times i v.own + once_below i (length v.seen) = λ i. ap (λ k. times i v.own + once_below i k) same in
      let kept = passed s h id me w value v.seen (homes ∙ one) at holds has begins follows (subst (Legal machine 0 opening) (sym t.2) h.legal) refl refl refl (omega arith) (omega arith) owned (prefix_refl v.seen) (prefix_trans v.compared h.journal v.seen f.compared begins) f.own in
      (w, gives, tt, kept, λ i. (w, rest (has i)))

  pub splits : (id : ℕ) (v : View) (share : ℕ) → v.waits ≡ false → v.holds ≡ false → share ≤ v.share - made v → Splits (Kept machine journal_of state_of opening) id v (cut share v) (cut_off share v)
  splits id v share waits holds room s h at =
      let left = cut share v in
      let right = cut_off share v in
      let f = h.each id v at in
      let z = wait_0 v waits in
      let within : made v ≤ v.share = (let r = f.room in omega arith) in
      let views = set s.views id left in
      record {
        ticket = h.ticket;
        serving = h.serving;
        journal = h.journal;
        words_are = h.words_are;
        legal = h.legal;
        sums = record {
          shares = (let a = sum_set (λ (u : View). u.share) s.views id v left at in let b = total_snoc (λ (u : View). u.share) views right in omega (arith, h.sums.shares));
          drawn = (let a = sum_set acts s.views id v left at in let b = total_snoc acts views right in omega (arith, h.sums.drawn));
          served = (let a = sum_set made s.views id v left at in let b = total_snoc made views right in omega (arith, h.sums.served));
          counted = (let a = sum_set (λ (u : View). u.refused) s.views id v left at in let b = total_snoc (λ (u : View). u.refused) views right in omega (arith, h.sums.counted));
          owned = λ i. (let a = sum_set (λ (u : View). times i u.own) s.views id v left at in let b = total_snoc (λ (u : View). times i u.own) views right in omega (arith, h.sums.owned i));
        };
        each = λ j u e. ⊎_elim
            (λ was. each_set (λ j u. Fine h.ticket h.serving h.journal u) s.views id left (λ j u _ e. h.each j u e)
            record { room = omega arith; queue = f.queue; turn = f.turn; seen = f.seen; compared = f.compared; own = f.own } j u was)
            (λ (new : right ≡ u). subst (Fine h.ticket h.serving h.journal) new
            record { room = omega arith; queue = λ k. absurd (off k); turn = λ k. absurd (off k); seen = f.seen; compared = (h.journal, refl); own = All-nil (Has v.seen) })
            (at_snoc views right u j e);
        queued = queued_snoc views right (queued_set s.views id left h.queued (λ j u _ e k _ _. off (sym waits ∙ k))) refl;
        idle = λ none. h.idle (none_before s.views id v left at holds (λ j u e. none j u (at_longer views (right ∷ []) j u e)));
      }

  pub joins : (id : ℕ) (v : View) (other : ℕ) (w : View) → v.waits ≡ false → v.holds ≡ false → w.waits ≡ false → w.holds ≡ false → Joins (Kept machine journal_of state_of opening) id v other w (joined v w) spent_view
  joins id v other w waits holds waits' holds' s h at apart there =
      let both = joined v w in
      let views = set s.views id both in
      let was : get_elem? s.views other ≡ some w = sym (set_else s.views id other both apart) ∙ there in
      let f = h.each id v at in
      let g = h.each other w was in
      let z = wait_0 v waits in
      let z' = wait_0 w waits' in
      let len = length_merge v.own w.own in
      let seen = prefix_longer v.seen w.seen h.journal f.seen g.seen in
      record {
        ticket = h.ticket;
        serving = h.serving;
        journal = h.journal;
        words_are = h.words_are;
        legal = h.legal;
        sums = record {
          shares = (let a = sum_set (λ (u : View). u.share) s.views id v both at in let b = sum_set (λ (u : View). u.share) views other w spent_view there in omega (arith, h.sums.shares));
          drawn = (let a = sum_set acts s.views id v both at in let b = sum_set acts views other w spent_view there in omega (arith, h.sums.drawn));
          served = (let a = sum_set made s.views id v both at in let b = sum_set made views other w spent_view there in omega (arith, h.sums.served));
          counted = (let a = sum_set (λ (u : View). u.refused) s.views id v both at in let b = sum_set (λ (u : View). u.refused) views other w spent_view there in omega (arith, h.sums.counted));
          owned = λ i. (let a = sum_set (λ (u : View). times i u.own) s.views id v both at in let b = sum_set (λ (u : View). times i u.own) views other w spent_view there in let c = total_merge (λ (e : JournalEntry). if e.place == i + 1 then 1 else 0) v.own w.own in omega (arith, h.sums.owned i));
        };
        each = each_set (λ j u. Fine h.ticket h.serving h.journal u) views other spent_view
            (λ j u _ e. each_set (λ j u. Fine h.ticket h.serving h.journal u) s.views id both (λ j u _ e. h.each j u e)
            record {
              room = (let a = f.room in let b = g.room in omega arith);
              queue = λ k. absurd (off k);
              turn = λ k. absurd (off k);
              seen = longer_either (λ js. IsPrefix js h.journal) v.seen w.seen f.seen g.seen;
              compared = shorter_either (λ js. IsPrefix js h.journal) v.seen w.seen f.seen g.seen;
              own = all_merge (Has (longer v.seen w.seen)) v.own w.own (has_more v.seen (longer v.seen w.seen) seen.0 v.own f.own) (has_more w.seen (longer v.seen w.seen) seen.1 w.own g.own);
            } j u e)
            record { room = omega arith; queue = λ k. absurd (off k); turn = λ k. absurd (off k); seen = (h.journal, refl); compared = (h.journal, refl); own = All-nil (Has []) };
        queued = queued_set views other spent_view (queued_set s.views id both h.queued (λ j u _ e k _ _. off k)) (λ j u _ e k _ _. off k);
        idle = λ none. h.idle (none_before s.views id v both at holds (none_before views other w spent_view there holds' none));
      }

  pub compares : (slots id : ℕ) (me : Me (Option H) View) (st : Step (Option H)) → Allows (Kept machine journal_of state_of opening) slots id me 1 (λ n. n) (Compares st me)
  compares slots id me st s h homes at word =
      let f = h.each id me.0 at in
      let words : set s.words 1 (slice_index s.words 1) ≡ s.words = ap (λ l. set l 1 (slice_index l 1)) h.words_are ∙ sym h.words_are in (
        me.0,
        keeps,
        tt,
        subst (λ vs. Kept machine journal_of state_of opening record { words = set s.words 1 (slice_index s.words 1); homes = s.homes; views = vs }) (sym (set_again s.views id me.0 at))
            (subst (λ l. Kept machine journal_of state_of opening record { words = l; homes = s.homes; views = s.views }) (sym words) h),
        (refl, (let up = sums_room (λ (_ : View). 0) (λ (u : View). u.share) s.views (λ j u e. omega arith) id me.0 at in omega (arith, h.sums.shares)), λ le. prefix_both me.0.compared me.0.seen h.journal f.compared f.seen le),
      )

  -- where a view has the whole share, the others have none, and a sum over all is its own part
  own_part : (f : View → ℕ) (views : List View) (id : ℕ) (v : View) → total_of (λ (u : View). u.share) views ≡ v.share → ((j : ℕ) (u : View) → get_elem? views j ≡ some u → f u ≤ u.share) → get_elem? views id ≡ some v → f v ≡ total_of f views
  own_part f views id v whole below at =
      let up = sums_room f (λ (u : View). u.share) views below id v at in
      let down = sums_room (λ (_ : View). 0) f views (λ j u e. omega arith) id v at in
      omega arith

  pub closes : (id : ℕ) (v : View) (s : State (Option H) View) (xs : List (Option H)) → v.share ≡ whole_share → v.waits ≡ false → v.holds ≡ false → Seen (Kept machine journal_of state_of opening) id v s → ((k : ℕ) (y : Option H) → get_elem? s.homes k ≡ some (some y) → get_elem? xs k ≡ some y) → (value : Option H) → get_elem? xs 0 ≡ some value → Closes machine journal_of state_of opening v value
  closes id v s xs whole waits holds seen back value taken =
      let h = seen.0 in
      let at = seen.1 in
      let f = h.each id v at in
      let all = h.sums.shares ∙ sym whole in
      let still : total_of waiting s.views ≡ 0 = sym (own_part waiting s.views id v all (λ j u e. (let r = (h.each j u e).room in omega arith)) at) ∙ wait_0 v waits in
      let none : (j : ℕ) (u : View) → get_elem? s.views j ≡ some u → u.holds ≡ false = λ j u e. elim (cases_Bool u.holds) [
        | inl journaled ↦ (let one = wait_1 u ((h.each j u e).turn journaled).0 in let up = sums_room (λ (_ : View). 0) waiting s.views (λ j u e. omega arith) j u e in absurd (omega arith))
        | inr not ↦ not
      ] in
      let home = h.idle none in
      let at_home : get_elem? xs 0 ≡ some (Some home.0) = back 0 (Some home.0) (ap (λ hs. get_elem? hs 0) home.1) in
      record {
        journaled = home.0;
        journal = h.journal;
        value_is = some-injective value (Some home.0) (sym taken ∙ at_home);
        follows = home.2;
        legal = h.legal;
        seen = f.seen;
        own = f.own;
        owned = λ i. own_part (λ (u : View). times i u.own) s.views id v all (λ j u e. (let r = (h.each j u e).room in omega (arith, times_le i u.own))) at ∙ h.sums.owned i;
      }

  -- where what is known of the slot names the opening state by another term
  pub leaves_as : (named : ServerState) → opening ≡ named → (slots id : ℕ) (me : Me (Option H) View) (st : Step (Option H)) (value : H) (e : JournalEntry) → slots ≡ 1 → me.0.holds ≡ true → me.1 ≡ (0, Some value) ∷ [] → Follows machine journal_of state_of named (me.0.seen ++ e ∷ []) value → e.place ≡ length me.0.seen + 1 → e.reply ≡ (machine (after machine named me.0.seen) e.event).reply → Allows (Kept machine journal_of state_of opening) slots id me 1 (λ n. (n + 1) % 18446744073709551616) (Leaves journal_of st me)
  leaves_as named same slots id me st value e one holds has follows place reply =
      let f : Follows machine journal_of state_of opening (me.0.seen ++ e ∷ []) value = subst (λ o. Follows machine journal_of state_of o (me.0.seen ++ e ∷ []) value) (sym same) follows in
      leaves slots id me st value e one holds has f.0 f.1 place (subst (λ o. e.reply ≡ (machine (after machine o me.0.seen) e.event).reply) (sym same) reply)

  pub refuses_as : (named : ServerState) → opening ≡ named → (slots id : ℕ) (me : Me (Option H) View) (st : Step (Option H)) (value : H) → slots ≡ 1 → me.0.holds ≡ true → me.1 ≡ (0, Some value) ∷ [] → Follows machine journal_of state_of named me.0.seen value → Allows (Kept machine journal_of state_of opening) slots id me 1 (λ n. (n + 1) % 18446744073709551616) (Refuses st me)
  refuses_as named same slots id me st value one holds has follows =
      refuses slots id me st value one holds has (subst (λ o. Follows machine journal_of state_of o me.0.seen value) (sym same) follows)

  -- the rule as the table is made
  pub opens : (slots : List (Option H)) (h : H) → slots ≡ Some h ∷ [] → journal_of h ≡ [] → state_of h ≡ opening → Kept machine journal_of state_of opening record { words = 0 ∷ 0 ∷ []; homes = map some slots; views = resting whole_share [] [] [] 0 ∷ [] }
  opens slots h is empty same =
      let first = resting whole_share [] [] [] 0 in
      record {
        ticket = 0;
        serving = 0;
        journal = [];
        words_are = refl;
        legal = tt;
        sums = record { shares = refl; drawn = refl; served = refl; counted = refl; owned = λ i. sym (none_below i) };
        each = only (Fine 0 0 []) first record { room = omega arith; queue = λ k. absurd (off k); turn = λ k. absurd (off k); seen = ([], refl); compared = ([], refl); own = All-nil (Has []) };
        queued = λ i j x y p q k l e. absurd (off (sym (only (λ (u : View). u.waits ≡ false) first refl i x p) ∙ k));
        idle = λ _. (h, ap (map some) is, (empty, same));
      }
    where
      only : (P : View → Type 0) (x : View) → P x → (id : ℕ) (v : View) → get_elem? (x ∷ []) id ≡ some v → P v
      only P x p zero v e = subst P (some-injective x v e) p
      only P x p (suc id) v e = absurd (some-ne-none v (sym e))

  pub opens_pushed : (before slots : List (Option H)) (h : H) → before ≡ [] → slots ≡ before ++ Some h ∷ [] → journal_of h ≡ [] → state_of h ≡ opening → Kept machine journal_of state_of opening record { words = 0 ∷ 0 ∷ []; homes = map some slots; views = resting whole_share [] [] [] 0 ∷ [] }
  opens_pushed before slots h none is empty same = opens slots h (is ∙ ap (λ (xs : List (Option H)). xs ++ Some h ∷ []) none) empty same

  -- what is kept says all that is listed
  sum_apart : (views : List View) → total_of acts views ≡ total_of made views + total_of waiting views
  sum_apart [] = refl
  sum_apart (v ∷ vs) = let rest = sum_apart vs in omega arith

  pub listed : (s : State (Option H) View) → Kept machine journal_of state_of opening s → Listed machine journal_of state_of opening s
  listed s h = record {
    ticket = h.ticket;
    serving = h.serving;
    journal = h.journal;
    words_are = h.words_are;
    waits = omega (arith, h.sums.drawn, h.sums.served, sum_apart s.views);
    tickets = λ id v at. (h.each id v at).queue;
    distinct = h.queued;
    one_holds = λ i j v w p q k l. (let a = (h.each i v p).turn k in let b = (h.each j w q).turn l in h.queued i j v w p q a.0 b.0 (a.1 ∙ sym b.1));
    holder = λ id v at k. (let t = (h.each id v at).turn k in (t.1, t.2));
    legal = h.legal;
    idle = h.idle;
    counted = h.sums.counted;
    seen = λ id v at. (h.each id v at).seen;
    own = λ id v at. (h.each id v at).own;
    owned = h.sums.owned;
    shares = h.sums.shares;
    within = λ id v at. (h.each id v at).room;
  }
