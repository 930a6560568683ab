-- What versions see after a commit and after a vacuum.
use Rattle.std.proofs.Common.{◌≡◌, ℕ, ◌<◌, ◌≤◌, Bool, true, false, cond, List, [], ◌∷◌, ◌++◌, map, filter, refl, sym, ap, ◌∙◌, arith}
use Rattle.std.specs.Prelude.{Option, None, Some, ◌==◌, ◌&&◌, ◌||◌, nat_lt, nat_le, find}
use Rattle.std.specs.Option.{option_map, option_or}
use Rattle.std.proofs.lemmas.List.Folds.{find-append}
use Rattle.std.specs.List.{list_any, AllByRecursion}
use Rattle.std.proofs.lemmas.Bool.Decides.{nat_tests}
use Rattle.std.proofs.lemmas.Bool.{or_left, or_right}
use Rattle.md_value.specs.Values.{PathBytes}
use Rattle.md_world.specs.declared.Row.{Row}
use Rattle.md_world.proofs.Lookups.{by_test}
use Rattle.md_world.proofs.Lists.{or_none, all_more, all_filter}
use Rattle.md_store.specs.declared.chain.KeptRow.{KeptRow}
use Rattle.md_store.specs.Chains.{sees, is_before_end, seen_in, end_or, end_at, new_row, with_row_at, is_seen, seen_of, EndsBy, Precedes, IsOrdered, IsPastBy, IsKeptRow, IsChain, HasPath}

lt_true : (a b : ℕ) → a < b → nat_lt a b ≡ true
lt_true a b h = grind (arith, nat_tests)

lt_false : (a b : ℕ) → b ≤ a → nat_lt a b ≡ false
lt_false a b h = grind (arith, nat_tests)

le_true : (a b : ℕ) → a ≤ b → nat_le a b ≡ true
le_true a b h = grind (arith, nat_tests)

le_false : (a b : ℕ) → b < a → nat_le a b ≡ false
le_false a b h = grind (arith, nat_tests)

and_false : (b : Bool) → b && false ≡ false
and_false true = refl
and_false false = refl

-- an end at a later version does not matter before it
end_later : (w v : ℕ) (o : Option ℕ) → w < v → is_before_end w (end_or v o) ≡ is_before_end w o
end_later w v None h = lt_true w v h
end_later w v (Some e) h = refl

-- what has ended, or ends now, is not seen now
end_now : (v : ℕ) (o : Option ℕ) → IsPastBy v o → is_before_end v (end_or v o) ≡ false
end_now v None h = lt_false v v (omega arith)
end_now v (Some e) h = lt_false v e h

-- versions before a commit see what they saw
ended_before : (v w : ℕ) (chain : List KeptRow) → w < v → seen_in (map (end_at v) chain) w ≡ seen_in chain w
ended_before v w [] h = refl
ended_before v w (l ∷ chain) h =
    let e : sees w (end_at v l) ≡ sees w l = ap (λ b. nat_le l.from w && b) (end_later w v l.until h) in
    let rest = ended_before v w chain h in
    by_test (sees w l)
    (λ b. rw (e ∙ b, b) refl)
    (λ b. rw (e ∙ b, b, rest) refl)

-- and the commit's version sees none of them
ended_after : (v : ℕ) (chain : List KeptRow) → AllByRecursion (λ l. IsPastBy v l.until) chain → find (sees v) (map (end_at v) chain) ≡ None
ended_after v [] h = refl
ended_after v (l ∷ chain) h =
    let e : sees v (end_at v l) ≡ false = ap (λ b. nat_le l.from v && b) (end_now v l.until h.0) ∙ and_false (nat_le l.from v) in
    rw e (ended_after v chain h.1)

-- versions before a commit see what they saw
pub seen_before : (v w : ℕ) (chain : List KeptRow) (row : Option Row) → w < v → seen_in (with_row_at chain v row) w ≡ seen_in chain w
seen_before v w chain None h = ended_before v w chain h
seen_before v w chain (Some r) h =
    let joined = find-append (sees w) (map (end_at v) chain) (new_row v r ∷ []) in
    let unseen : sees w (new_row v r) ≡ false = ap (λ b. b && true) (le_false v w h) in
    ap (option_map (λ (l : KeptRow). l.row)) (joined ∙ ap (λ b. option_or (find (sees w) (map (end_at v) chain)) (cond b (Some (new_row v r)) None)) unseen ∙ or_none (find (sees w) (map (end_at v) chain)))
    ∙ ended_before v w chain h

-- the commit's version sees its row
pub seen_now : (v : ℕ) (chain : List KeptRow) (row : Option Row) → AllByRecursion (λ l. IsPastBy v l.until) chain → seen_in (with_row_at chain v row) v ≡ row
seen_now v chain None h = ap (option_map (λ (l : KeptRow). l.row)) (ended_after v chain h)
seen_now v chain (Some r) h =
    let joined = find-append (sees v) (map (end_at v) chain) (new_row v r ∷ []) in
    let seen : sees v (new_row v r) ≡ true = ap (λ b. b && true) (le_true v v (omega arith)) in
    ap (option_map (λ (l : KeptRow). l.row)) (joined ∙ ap (λ o. option_or o (cond (sees v (new_row v r)) (Some (new_row v r)) None)) (ended_after v chain h) ∙ ap (λ b. cond b (Some (new_row v r)) None) seen)

past_more : (n v : ℕ) (o : Option ℕ) → n ≤ v → IsPastBy n o → IsPastBy v o
past_more n v None le h = tt
past_more n v (Some e) le h = omega arith

-- after the last commit nothing changes
end_same : (n v : ℕ) (o : Option ℕ) → n ≤ v → IsPastBy n o → is_before_end v o ≡ is_before_end n o
end_same n v None le h = refl
end_same n v (Some e) le h = lt_false v e (omega arith) ∙ sym (lt_false n e h)

sees_later : (p : PathBytes) (n v : ℕ) (l : KeptRow) → n ≤ v → IsKeptRow p n l → sees v l ≡ sees n l
sees_later p n v l le h =
    let from = h.from in
    ap (λ b. b && is_before_end v l.until) (le_true l.from v (omega arith) ∙ sym (le_true l.from n from)) ∙ ap (λ b. nat_le l.from n && b) (end_same n v l.until le h.until)

pub seen_later : (p : PathBytes) (n v : ℕ) (chain : List KeptRow) → n ≤ v → AllByRecursion (IsKeptRow p n) chain → seen_in chain v ≡ seen_in chain n
seen_later p n v [] le h = refl
seen_later p n v (l ∷ chain) le h =
    let e = sees_later p n v l le h.0 in
    let rest = seen_later p n v chain le h.1 in
    by_test (sees n l)
    (λ b. rw (e ∙ b, b) refl)
    (λ b. rw (e ∙ b, b, rest) refl)

pub lives_past : (p : PathBytes) (n v : ℕ) (chain : List KeptRow) → n ≤ v → AllByRecursion (IsKeptRow p n) chain → AllByRecursion (λ l. IsPastBy v l.until) chain
lives_past p n v [] le h = tt
lives_past p n v (l ∷ chain) le h = (past_more n v l.until le h.0.until, lives_past p n v chain le h.1)

pub lives_more : (p : PathBytes) (n v : ℕ) (chain : List KeptRow) → n ≤ v → AllByRecursion (IsKeptRow p n) chain → AllByRecursion (IsKeptRow p v) chain
lives_more p n v [] le h = tt
lives_more p n v (l ∷ chain) le h =
    let from = h.0.from in
    (record { path = h.0.path; from = omega arith; until = past_more n v l.until le h.0.until }, lives_more p n v chain le h.1)

past_end : (v : ℕ) (o : Option ℕ) → IsPastBy v o → IsPastBy v (end_or v o)
past_end v None h = omega arith
past_end v (Some e) h = h

lives_ended : (p : PathBytes) (v : ℕ) (chain : List KeptRow) → AllByRecursion (IsKeptRow p v) chain → AllByRecursion (IsKeptRow p v) (map (end_at v) chain)
lives_ended p v [] h = tt
lives_ended p v (l ∷ chain) h =
    (record { path = h.0.path; from = h.0.from; until = past_end v l.until h.0.until }, lives_ended p v chain h.1)

ends_by_or : (v w : ℕ) (o : Option ℕ) → EndsBy w o → EndsBy w (end_or v o)
ends_by_or v w None h = absurd h
ends_by_or v w (Some e) h = h

all_ended : (v : ℕ) (x : KeptRow) (chain : List KeptRow) → AllByRecursion (Precedes x) chain → AllByRecursion (Precedes (end_at v x)) (map (end_at v) chain)
all_ended v x [] h = tt
all_ended v x (l ∷ chain) h = (record { from = h.0.from; until = ends_by_or v l.from x.until h.0.until }, all_ended v x chain h.1)

ordered_ended : (v : ℕ) (chain : List KeptRow) → IsOrdered chain → IsOrdered (map (end_at v) chain)
ordered_ended v [] h = tt
ordered_ended v (l ∷ chain) h = (all_ended v l chain h.0, ordered_ended v chain h.1)

ends_now : (v : ℕ) (o : Option ℕ) → IsPastBy v o → EndsBy v (end_or v o)
ends_now v None h = omega arith
ends_now v (Some e) h = h

ordered_new : (p : PathBytes) (v : ℕ) (chain : List KeptRow) (r : Row) → AllByRecursion (IsKeptRow p v) chain → IsOrdered chain → IsOrdered (map (end_at v) chain ++ new_row v r ∷ [])
ordered_new p v [] r k h = (tt, tt)
ordered_new p v (l ∷ chain) r k h =
    (all_more (Precedes (end_at v l)) (map (end_at v) chain) (new_row v r) (all_ended v l chain h.0) (record { from = k.0.from; until = ends_now v l.until k.0.until }), ordered_new p v chain r k.1 h.1)

-- a commit keeps the rows of its path in order
pub chain_commit : (p : PathBytes) (n v : ℕ) (chain : List KeptRow) (row : Option Row) → n ≤ v → HasPath p row → IsChain p n chain → IsChain p v (with_row_at chain v row)
chain_commit p n v chain None le own h =
    record { rows = lives_ended p v chain (lives_more p n v chain le h.rows); ordered = ordered_ended v chain h.ordered }
chain_commit p n v chain (Some r) le own h =
    record {
      rows = all_more (IsKeptRow p v) (map (end_at v) chain) (new_row v r) (lives_ended p v chain (lives_more p n v chain le h.rows)) (record { path = own; from = omega arith; until = tt });
      ordered = ordered_new p v chain r (lives_more p n v chain le h.rows) h.ordered;
    }

pub chain_more : (p : PathBytes) (n v : ℕ) (chain : List KeptRow) → n ≤ v → IsChain p n chain → IsChain p v chain
chain_more p n v chain le h = record { rows = lives_more p n v chain le h.rows; ordered = h.ordered }

pub ordered_filter : (t : KeptRow → Bool) (chain : List KeptRow) → IsOrdered chain → IsOrdered (filter t chain)
ordered_filter t [] h = tt
ordered_filter t (l ∷ chain) h =
    by_test (t l)
    (λ b. rw b (all_filter (Precedes l) t chain h.0, ordered_filter t chain h.1))
    (λ b. rw b (ordered_filter t chain h.1))

-- rows that are given up leave the others in order
pub chain_filter : (p : PathBytes) (n : ℕ) (t : KeptRow → Bool) (chain : List KeptRow) → IsChain p n chain → IsChain p n (filter t chain)
chain_filter p n t chain h = record { rows = all_filter (IsKeptRow p n) t chain h.rows; ordered = ordered_filter t chain h.ordered }

-- what passes both tests is found as before, where the first test says so
find_filter : {A : Type 0} (p t : A → Bool) (xs : List A) → ((x : A) → p x ≡ true → t x ≡ true) → find p (filter t xs) ≡ find p xs
find_filter p t [] h = refl
find_filter p t (x ∷ xs) h =
    by_test (p x)
    (λ b. rw (h x b, b) refl)
    (λ b. by_test (t x)
    (λ k. rw (k, b) (find_filter p t xs h))
    (λ k. rw (k, b) (find_filter p t xs h)))

any_pin : (w : ℕ) (pins : List ℕ) (l : KeptRow) → list_any (λ pin. pin == w) pins ≡ true → sees w l ≡ true → list_any (λ v. sees v l) pins ≡ true
any_pin w [] l h e = cc
any_pin w (pin ∷ pins) l h e =
    by_test (pin == w)
    (λ b. let same : pin ≡ w = grind (arith, nat_tests) in or_left (sees pin l) (list_any (λ v. sees v l) pins) (ap (λ v. sees v l) same ∙ e))
    (λ b. or_right (sees pin l) (list_any (λ v. sees v l) pins) (any_pin w pins l (rw b at h) e))

shown_seen : (n w : ℕ) (pins : List ℕ) (l : KeptRow) → (w == n) || list_any (λ pin. pin == w) pins ≡ true → sees w l ≡ true → is_seen n pins l ≡ true
shown_seen n w pins l h e =
    by_test (w == n)
    (λ b. let same : w ≡ n = grind (arith, nat_tests) in or_left (sees n l) (list_any (λ v. sees v l) pins) (ap (λ v. sees v l) (sym same) ∙ e))
    (λ b. or_right (sees n l) (list_any (λ v. sees v l) pins) (any_pin w pins l (rw b at h) e))

-- versions that can be read see what they saw before a vacuum
pub seen_vacuum : (n w : ℕ) (pins : List ℕ) (chain : List KeptRow) → (w == n) || list_any (λ pin. pin == w) pins ≡ true → seen_in (seen_of n pins chain) w ≡ seen_in chain w
seen_vacuum n w pins chain h = ap (option_map (λ (l : KeptRow). l.row)) (find_filter (sees w) (is_seen n pins) chain (λ l e. shown_seen n w pins l h e))
