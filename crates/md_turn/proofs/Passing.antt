-- What a pass always has, before and after a call.
use Rattle.std.proofs.lemmas.Bool.Decides.{nat_tests}
use mathlib.Core.Option.{some, some-ne-none, some-injective}
use lib.ListN.{get_elem?}
use Rattle.std.proofs.Common.{◌≡◌, ◌⊎◌, inl, inr, ⊎_elim, ℕ, zero, suc, ◌+◌, ◌-◌, ◌<◌, ◌≤◌, ◌==◌, nat_lt, List, [], ◌∷◌, ◌++◌, length, All, refl, sym, ap, ◌∙◌, subst, arith, true, false, length-append, append_assoc, Option, IfSome, option_to_list, Some, Result, Ok, Err, IfOk, IfErr, if◌then◌else◌}
use Rattle.std.proofs.lemmas.List.Elements.{All-push, All-nil, All-cons, All-head, All-weaker, All-pop}
use Rattle.atomic_table.specs.Seated.{TableId}
use Rattle.md_machine.specs.declared.Event.{Event}
use Rattle.md_machine.specs.declared.Reply.{Reply}
use Rattle.md_turn.specs.declared.journal.JournalEntry.{JournalEntry}
use Rattle.md_turn.specs.declared.journaled.Journaled.{Journaled}
use Rattle.md_turn.specs.declared.rule.View.{View}
use Rattle.md_machine.specs.States.{State as ServerState}
use Rattle.md_machine.specs.Steps.{step}
use Rattle.md_turn.specs.Journal.{entry, after, Legal, IsPrefix, Has, total_of, times, once_below, longer, shorter, merge, Rises}
use Rattle.md_turn.specs.Turns.{made, cut, cut_off, joined, Closes}
use Rattle.md_turn.specs.Acts.{Acted, Unacted, journal_of, state_of}
use Rattle.md_turn.specs.Passes.{Known, made_by, view_of, known_of, IsPass, Joined, Ended, Gathered, HasOneOwner}
use Rattle.md_turn.proofs.Runs.{last, legal_journal}
use Rattle.md_turn.proofs.Journals.{prefix_append, prefix_refl, prefix_trans, total_merge, at_end, has_more, all_merge, length_merge, rises_push, rises_merge, has_below}

pub may_act : (id : TableId) (views : List View) (share acts : ℕ) (k : Known) → IsPass views share acts → known_of id (view_of views) ≡ k → made_by k < k.share → acts < share
may_act id views share acts k i is room =
    let r : made (view_of views) < (view_of views).share = subst (λ (q : Known). made_by q < q.share) (sym is) room in
    omega (arith, i.acts_are, i.share_is)

pub pass_of : (views : List View) (v : View) (share acts : ℕ) → views ≡ v ∷ [] → v.waits ≡ false → v.holds ≡ false → share ≡ v.share → acts ≡ made v → acts ≤ share → All (Has v.seen) v.own → Rises v.own → IsPass views share acts
pass_of views v share acts is waits holds s a room own rises = subst (λ vs. IsPass vs share acts) (sym is) record { one = refl; waits = waits; holds = holds; share_is = s; acts_are = a; room = room; own = own; rises = rises }

pub acted_pass : (opening : ServerState) (views views' : List View) (share acts : ℕ) (v w : View) (event : Event) (r : Result (ℕ × Reply) Event) → IsPass views share acts → views ≡ v ∷ [] → views' ≡ w ∷ [] → acts < share → w.waits ≡ false → w.holds ≡ false → w.share ≡ v.share
    → IfOk r (λ r. Acted opening v.seen v.own w.seen w.own event r.0 r.1 × (w.refused ≡ v.refused))
    → IfErr r (λ e. (e ≡ event) × Unacted opening v.seen v.own w.seen w.own × (w.refused ≡ v.refused + 1))
    → IsPass views' share (acts + 1)
acted_pass opening views views' share acts v w event (Ok r) i is is' room waits holds same acted unacted =
    let was : IsPass (v ∷ []) share acts = subst (λ vs. IsPass vs share acts) is i in
    let a = acted.0 in
    let e : JournalEntry = entry r.0 event r.1 in
    let js : List JournalEntry = v.seen ++ a.others in
    let len : length (js ++ e ∷ []) ≡ length js + 1 = length-append js (e ∷ []) in
    let place : r.0 ≡ length js + 1 = a.place_is ∙ ap length a.seen_is ∙ len in
    let old : All (Has (js ++ e ∷ [])) v.own = has_more js (js ++ e ∷ []) (prefix_append js (e ∷ [])) v.own (has_more v.seen js (prefix_append v.seen a.others) v.own was.own) in
    let own : All (Has (js ++ e ∷ [])) (v.own ++ e ∷ []) = All-push (Has (js ++ e ∷ [])) v.own e old (length js, place, at_end js e) in
    let more : length w.own ≡ length v.own + 1 = ap length a.own_is ∙ length-append v.own (e ∷ []) in
    let prefix : length js ≡ length v.seen + length a.others = length-append v.seen a.others in
    let rises : Rises (v.own ++ e ∷ []) = rises_push v.own e was.rises (has_below v.seen r.0 (omega arith) v.own was.own) in
    pass_of views' w share (acts + 1) is' waits holds (was.share_is ∙ sym same) (omega (arith, was.acts_are, acted.1)) (omega arith)
    (subst (λ (y : List JournalEntry × List JournalEntry). All (Has y.0) y.1) (λ k. (sym a.seen_is k, sym a.own_is k)) own)
    (subst Rises (sym a.own_is) rises)
acted_pass opening views views' share acts v w event (Err x) i is is' room waits holds same acted unacted =
    let was : IsPass (v ∷ []) share acts = subst (λ vs. IsPass vs share acts) is i in
    let a = unacted.1 in
    let own : All (Has (v.seen ++ a.others)) v.own = has_more v.seen (v.seen ++ a.others) (prefix_append v.seen a.others) v.own was.own in
    let more : length w.own ≡ length v.own = ap length a.own_is in
    pass_of views' w share (acts + 1) is' waits holds (was.share_is ∙ sym same) (omega (arith, was.acts_are, unacted.2)) (omega arith)
    (subst (λ (y : List JournalEntry × List JournalEntry). All (Has y.0) y.1) (λ k. (sym a.seen_is k, sym a.own_is k)) own)
    (subst Rises (sym a.own_is) was.rises)

pub may_cut : (id : TableId) (views : List View) (n : ℕ) (k : Known) → known_of id (view_of views) ≡ k → n ≤ k.share - made_by k → n ≤ (view_of views).share - made (view_of views)
may_cut id views n k is room = subst (λ (q : Known). n ≤ q.share - made_by q) (sym is) room

pub cut_pass : (views views' : List View) (share acts n : ℕ) (v : View) → IsPass views share acts → views ≡ v ∷ [] → views' ≡ cut n v ∷ [] → n ≤ v.share - made v → IsPass views' (share - n) acts
cut_pass views views' share acts n v i is is' room =
    let was : IsPass (v ∷ []) share acts = subst (λ vs. IsPass vs share acts) is i in
    pass_of views' (cut n v) (share - n) acts is' was.waits was.holds (omega (arith, was.share_is)) was.acts_are (omega (arith, was.acts_are, was.share_is, was.room)) was.own was.rises

pub new_pass : (views' : List View) (n : ℕ) (v : View) → views' ≡ cut_off n v ∷ [] → IsPass views' n 0
new_pass views' n v is' = pass_of views' (cut_off n v) n 0 is' refl refl refl refl (omega arith) (All-nil (Has v.seen)) tt

pub prefixes_of : (xs ys : List JournalEntry) → IsPrefix (shorter xs ys) (longer xs ys) → IsPrefix xs (longer xs ys) × IsPrefix ys (longer xs ys)
prefixes_of xs ys h =
    (elim (nat_lt (length xs) (length ys)) as (λ b. IsPrefix (if b then xs else ys) (if b then ys else xs) → IsPrefix xs (if b then ys else xs) × IsPrefix ys (if b then ys else xs)) [
      | true ↦ λ b. (b, prefix_refl ys)
      | false ↦ λ b. (prefix_refl xs, b)
    ]) h

pub joined_pass : (views views' views'' : List View) (share share' acts acts' : ℕ) (v w : View) → IsPass views share acts → IsPass views' share' acts' → views ≡ v ∷ [] → views' ≡ w ∷ [] → views'' ≡ joined v w ∷ [] → IsPrefix (shorter v.seen w.seen) (longer v.seen w.seen) → IsPass views'' (share + share') (acts + acts')
joined_pass views views' views'' share share' acts acts' v w i j is is' is'' prefix =
    let a : IsPass (v ∷ []) share acts = subst (λ vs. IsPass vs share acts) is i in
    let b : IsPass (w ∷ []) share' acts' = subst (λ vs. IsPass vs share' acts') is' j in
    let f = prefixes_of v.seen w.seen prefix in
    let len = length_merge v.own w.own in
    pass_of views'' (joined v w) (share + share') (acts + acts') is'' refl refl (omega (arith, a.share_is, b.share_is)) (omega (arith, a.acts_are, b.acts_are)) (omega (arith, a.room, b.room))
    (all_merge (Has (longer v.seen w.seen)) v.own w.own (has_more v.seen (longer v.seen w.seen) f.0 v.own a.own) (has_more w.seen (longer v.seen w.seen) f.1 w.own b.own))
    (rises_merge v.own w.own b.rises)

pub joined_own : (id id' : TableId) (views views' views'' : List View) (share share' acts acts' : ℕ) (v w : View) (k l : Known) → IsPass views share acts → IsPass views' share' acts' → views ≡ v ∷ [] → views' ≡ w ∷ [] → views'' ≡ joined v w ∷ [] → IsPrefix (shorter v.seen w.seen) (longer v.seen w.seen) → known_of id (view_of views) ≡ k → known_of id' (view_of views') ≡ l → All (Has (view_of views'').seen) k.own × All (Has (view_of views'').seen) l.own
joined_own id id' views views' views'' share share' acts acts' v w k l i j is is' is'' prefix kn ln =
    let a : IsPass (v ∷ []) share acts = subst (λ vs. IsPass vs share acts) is i in
    let b : IsPass (w ∷ []) share' acts' = subst (λ vs. IsPass vs share' acts') is' j in
    let f = prefixes_of v.seen w.seen prefix in
    let own : v.own ≡ k.own = ap (λ (vs : List View). (view_of vs).own) (sym is) ∙ ap (λ (q : Known). q.own) kn in
    let own' : w.own ≡ l.own = ap (λ (vs : List View). (view_of vs).own) (sym is') ∙ ap (λ (q : Known). q.own) ln in
    let seen : longer v.seen w.seen ≡ (view_of views'').seen = ap (λ (vs : List View). (view_of vs).seen) (sym is'') in (
      subst (λ (y : List JournalEntry × List JournalEntry). All (Has y.0) y.1) (λ t. (seen t, own t)) (has_more v.seen (longer v.seen w.seen) f.0 v.own a.own),
      subst (λ (y : List JournalEntry × List JournalEntry). All (Has y.0) y.1) (λ t. (seen t, own' t)) (has_more w.seen (longer v.seen w.seen) f.1 w.own b.own),
    )

pub gathered_one : (p : Known) → All (Has p.seen) p.own → Rises p.own → Gathered (p ∷ []) p
gathered_one p own rises = record {
  rises = All-cons (λ (q : Known). Rises q.own) p [] rises (All-nil (λ (q : Known). Rises q.own));
  shares = omega arith;
  seen = All-cons (λ (q : Known). IsPrefix q.seen p.seen) p [] (prefix_refl p.seen) (All-nil (λ (q : Known). IsPrefix q.seen p.seen));
  own = All-cons (λ (q : Known). All (Has p.seen) q.own) p [] own (All-nil (λ (q : Known). All (Has p.seen) q.own));
  owned = λ i. omega arith;
}

pub gathered_more : (taken : List Known) (p q p' : Known) → Gathered taken p → Joined p q p' → All (Has p'.seen) q.own → Rises q.own → Gathered (q ∷ taken) p'
gathered_more taken p q p' g j own rises = record {
  rises = All-cons (λ (r : Known). Rises r.own) q taken rises g.rises;
  shares = omega (arith, g.shares, j.share);
  seen = All-cons (λ (r : Known). IsPrefix r.seen p'.seen) q taken j.other_prefix
      (All-weaker (λ (r : Known). IsPrefix r.seen p.seen) (λ (r : Known). IsPrefix r.seen p'.seen) (λ r b. prefix_trans r.seen p.seen p'.seen b j.prefix) taken g.seen);
  own = All-cons (λ (r : Known). All (Has p'.seen) r.own) q taken own
      (All-weaker (λ (r : Known). All (Has p.seen) r.own) (λ (r : Known). All (Has p'.seen) r.own) (λ r h. has_more p.seen p'.seen j.prefix r.own h) taken g.own);
  owned = λ i. (let m : times i p'.own ≡ times i (merge p.own q.own) = ap (times i) j.own in let n = total_merge (λ (e : JournalEntry). if e.place == i + 1 then 1 else 0) p.own q.own in omega (arith, g.owned i));
}

none_owns : (f : Known → ℕ) (ps : List Known) → total_of f ps ≡ 0 → (j : ℕ) (q : Known) → get_elem? ps j ≡ some q → f q ≡ 0
none_owns f [] e j q at = absurd (some-ne-none q (sym at))
none_owns f (p ∷ ps) e zero q at = let same : f p ≡ f q = ap f (some-injective p q at) in omega arith
none_owns f (p ∷ ps) e (suc j) q at = none_owns f ps (omega arith) j q at

one_of : (f : Known → ℕ) (ps : List Known) → total_of f ps ≡ 1 → (k : ℕ) × (p : Known) × (get_elem? ps k ≡ some p) × (f p ≡ 1) × ((j : ℕ) (q : Known) → get_elem? ps j ≡ some q → ¬ (j ≡ k) → f q ≡ 0)
one_of f [] e = absurd (omega arith)
one_of f (p ∷ ps) e = ⊎_elim
    (λ (is : f p ≡ 0).
    (let r = one_of f ps (omega arith) in
    let rest : (j : ℕ) (q : Known) → get_elem? (p ∷ ps) j ≡ some q → ¬ (j ≡ suc r.0) → f q ≡ 0 = others p ps r.0 is r.4 in
    (suc r.0, r.1, r.2, r.3, rest)))
    (λ (is : 1 ≤ f p).
    (let rest : (j : ℕ) (q : Known) → get_elem? (p ∷ ps) j ≡ some q → ¬ (j ≡ 0) → f q ≡ 0 = behind p ps (none_owns f ps (omega arith)) in
    (0, p, refl, omega arith, rest)))
    (none_or (f p))
  where
    none_or : (n : ℕ) → (n ≡ 0) ⊎ (1 ≤ n)
    none_or zero = inl refl
    none_or (suc n) = inr (omega arith)

    others : (p : Known) (ps : List Known) (k : ℕ) → f p ≡ 0 → ((j : ℕ) (q : Known) → get_elem? ps j ≡ some q → ¬ (j ≡ k) → f q ≡ 0) → (j : ℕ) (q : Known) → get_elem? (p ∷ ps) j ≡ some q → ¬ (j ≡ suc k) → f q ≡ 0
    others p ps k is all zero q at far = ap f (sym (some-injective p q at)) ∙ is
    others p ps k is all (suc j) q at far = all j q at (λ e. far (ap suc e))

    behind : (p : Known) (ps : List Known) → ((j : ℕ) (q : Known) → get_elem? ps j ≡ some q → f q ≡ 0) → (j : ℕ) (q : Known) → get_elem? (p ∷ ps) j ≡ some q → ¬ (j ≡ 0) → f q ≡ 0
    behind p ps all zero q at far = absurd (far refl)
    behind p ps all (suc j) q at far = all j q at

owners : (passes : List Known) (js : List JournalEntry) → ((i : ℕ) → total_of (λ (p : Known). times i p.own) passes ≡ once_below i (length js)) → (i : ℕ) → i < length js → HasOneOwner passes i
owners passes js owned i lt = (let one : once_below i (length js) ≡ 1 = grind (arith, nat_tests) in one_of (λ (p : Known). times i p.own) passes (owned i ∙ one))

pub ended_all : (o : ServerState) (taken : List Known) (p : Known) (s : ServerState) (js : List JournalEntry) → Gathered taken p → Ended o (p ∷ []) s js → Ended o taken s js
ended_all o taken p s js g e =
    let prefix : IsPrefix p.seen js = All-head (λ (q : Known). IsPrefix q.seen js) p [] e.seen in
    let counts : (i : ℕ) → total_of (λ (q : Known). times i q.own) taken ≡ once_below i (length js) = λ i. omega (arith, g.owned i, e.owned i) in
    record {
      legal = e.legal;
      state_is = e.state_is;
      seen = All-weaker (λ (r : Known). IsPrefix r.seen p.seen) (λ (r : Known). IsPrefix r.seen js) (λ r b. prefix_trans r.seen p.seen js b prefix) taken g.seen;
      own = All-weaker (λ (r : Known). All (Has p.seen) r.own) (λ (r : Known). All (Has js) r.own) (λ r h. has_more p.seen js prefix r.own h) taken g.own;
      rises = g.rises;
      owned = counts;
      one_owner = owners taken js counts;
    }

-- after the last of a list is popped
pub popped : (P : Known → Type 0) (xs ys : List Known) (r : Option Known) (p : Known) → xs ≡ ys ++ option_to_list r → r ≡ Some p → All P xs → P p × All P ys
popped P xs ys r p e is all =
    let a = All-pop P xs ys r e all in
    let s : IfSome (Some p) P = subst (λ (q : Option Known). IfSome q P) is a.1 in
    (s, a.0)

pub popped_is : (xs ys all taken : List Known) (r : Option Known) (p : Known) → xs ≡ ys ++ option_to_list r → r ≡ Some p → all ≡ xs ++ taken → all ≡ ys ++ p ∷ taken
popped_is xs ys all taken r p e is whole =
    let f : xs ≡ ys ++ p ∷ [] = e ∙ ap (λ (q : Option Known). ys ++ option_to_list q) is in
    whole ∙ ap (λ (zs : List Known). zs ++ taken) f ∙ append_assoc ys (p ∷ []) taken

module _ {C : Type 0} (state : C → ServerState) where
  same_journaled : (a b : Journaled C) → Some a ≡ Some b → b ≡ a
  same_journaled a b e = cc

  pub ended_one : (opening o : ServerState) (id : TableId) (views : List View) (v : View) (k : Known) (h : Journaled C) → Closes step journal_of (state_of state) opening v (Some h) → opening ≡ o → views ≡ v ∷ [] → known_of id (view_of views) ≡ k → Rises k.own → Ended o (k ∷ []) (state h.core) h.journal.items
  ended_one opening o id views v k h x same is kn rises =
      let js : List JournalEntry = journal_of x.journaled in
      let p : Known = known_of id v in
      let to : x.journal ≡ js = sym x.follows.0 in
      let known : p ≡ k = ap (λ (vs : List View). known_of id (view_of vs)) (sym is) ∙ kn in
      let counts : (i : ℕ) → total_of (λ (q : Known). times i q.own) (p ∷ []) ≡ once_below i (length js) = λ i. (let n : times i v.own ≡ once_below i (length js) = x.owned i ∙ ap (λ (es : List JournalEntry). once_below i (length es)) to in omega arith) in
      let ended : Ended opening (p ∷ []) (state x.journaled.core) js = record {
        legal = legal_journal opening js (subst (Legal step 0 opening) to x.legal);
        state_is = x.follows.1 ∙ ap (after step opening) to ∙ last opening js;
        seen = All-cons (λ (q : Known). IsPrefix q.seen js) p [] (subst (IsPrefix v.seen) to x.seen) (All-nil (λ (q : Known). IsPrefix q.seen js));
        own = All-cons (λ (q : Known). All (Has js) q.own) p [] (has_more v.seen js (subst (IsPrefix v.seen) to x.seen) v.own x.own) (All-nil (λ (q : Known). All (Has js) q.own));
        rises = All-cons (λ (q : Known). Rises q.own) p [] (subst (λ (q : Known). Rises q.own) (sym known) rises) (All-nil (λ (q : Known). Rises q.own));
        owned = counts;
        one_owner = owners (p ∷ []) js counts;
      } in
      subst (λ (q : Known). Ended o (q ∷ []) (state h.core) h.journal.items) known
      (subst (λ (y : Journaled C). Ended o (p ∷ []) (state y.core) (journal_of y)) (same_journaled h x.journaled x.value_is)
      (subst (λ (n : ServerState). Ended n (p ∷ []) (state x.journaled.core) js) same ended))
