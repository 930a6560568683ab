-- The tables that the places make, after a commit and after a vacuum.
use Rattle.std.proofs.Common.{◌≡◌, ℕ, zero, suc, ◌+◌, ◌<◌, ◌≤◌, Bool, true, false, cond, List, [], ◌∷◌, map, length, refl, sym, ap, ◌∙◌, subst, arith, length-append}
use Rattle.std.proofs.lemmas.List.{length-map}
use Rattle.std.specs.Prelude.{Option, None, Some, ◌==◌, ◌||◌, slice_get, if◌then◌else◌}
use Rattle.std.specs.Option.{option_or}
use Rattle.std.specs.List.{list_any, AllByRecursion}
use Rattle.md_value.specs.Values.{PathBytes, is_same}
use Rattle.md_value.proofs.Orders.{same_exact, same_refl, same_sym_false}
use Rattle.md_world.specs.declared.Row.{Row}
use Rattle.md_world.specs.declared.Change.{Change}
use Rattle.md_world.specs.Tables.{at, with_row, after, row_of}
use Rattle.md_world.specs.Holding.{with_rows}
use Rattle.md_world.specs.Tickets.{with_stamp}
use Rattle.md_world.proofs.Lookups.{by_test, some_inj, same_tables, at-with_row, at-after}
use Rattle.md_world.proofs.Tables.{table_with_rows, table_after}
use Rattle.md_world.proofs.Lists.{or_none}
use Rattle.md_store.specs.declared.chain.KeptRow.{KeptRow}
use Rattle.md_store.specs.Chains.{sees, seen_in, with_row_at, is_seen, end_at, IsKeptRow, IsChain, HasPath, one_if}
use Rattle.md_store.specs.Places.{Place, place_in, next_place, row_before, rows_seen, table_at, kept_of, with_commit, places_seen, stamps_of, ArePlaces}
use Rattle.md_store.proofs.Laws.{seen_before, seen_now, seen_later, lives_past, chain_commit, chain_more, chain_filter, seen_vacuum}

-- what a version sees at a path
abbrev pub looked : List Place → ℕ → PathBytes → Option Row
looked [] v p = None
looked (x ∷ places) v p = if is_same x.path p then seen_in x.rows v else looked places v p

next_none : (o : Option ℕ) → next_place o ≡ None → o ≡ None
next_none None h = refl
next_none (Some i) h = cc

-- a path that has no place is at none
pub absent_at : (places : List Place) (p : PathBytes) (i : ℕ) (x : Place) → place_in places p ≡ None → slice_get places i ≡ Some x → is_same x.path p ≡ false
absent_at [] p i x h e = cc
absent_at (y ∷ places) p zero x h e =
    by_test (is_same y.path p)
    (λ b. absurd (found (rw b at h)))
    (λ b. let same : y ≡ x = cc in ap (λ (z : Place). is_same z.path p) (sym same) ∙ b)
  where
    found : Some zero ≡ None → ⊥
    found h = cc
absent_at (y ∷ places) p (suc i) x h e =
    by_test (is_same y.path p)
    (λ b. absurd (found (rw b at h)))
    (λ b. absent_at places p i x (next_none (place_in places p) (rw b at h)) e)
  where
    found : Some zero ≡ None → ⊥
    found h = cc

pub looked_absent : (places : List Place) (v : ℕ) (p : PathBytes) → place_in places p ≡ None → looked places v p ≡ None
looked_absent [] v p h = refl
looked_absent (y ∷ places) v p h =
    by_test (is_same y.path p)
    (λ b. absurd (found (rw b at h)))
    (λ b. rw b (looked_absent places v p (next_none (place_in places p) (rw b at h))))
  where
    found : Some zero ≡ None → ⊥
    found h = cc

-- a row that is seen of a path has it
seen_path : (p : PathBytes) (n v : ℕ) (chain : List KeptRow) (r : Row) → AllByRecursion (IsKeptRow p n) chain → seen_in chain v ≡ Some r → r.path ≡ p
seen_path p n v [] r h e = cc
seen_path p n v (l ∷ chain) r h e =
    by_test (sees v l)
    (λ b. ap (λ (x : Row). x.path) (sym (some_inj l.row r (rw b at e))) ∙ h.0.path)
    (λ b. seen_path p n v chain r h.1 (rw b at e))

seen_or : (held : List Row) (p q : PathBytes) (places : List Place) (v : ℕ) (o : Option Row) → ((r : Row) → o ≡ Some r → r.path ≡ q) → place_in places q ≡ None
    → ((h : List Row) → at (with_rows h (rows_seen places v)) p ≡ option_or (looked places v p) (at h p))
    → at (with_rows held (row_before o (rows_seen places v))) p ≡ option_or (if is_same q p then o else looked places v p) (at held p)
seen_or held p q places v None own absent rest =
    by_test (is_same q p)
    (λ b.
    let gone : looked places v p ≡ None = looked_absent places v p (subst (λ x. place_in places x ≡ None) (same_exact q p b) absent) in
    rw b (rest held ∙ ap (λ o. option_or o (at held p)) gone))
    (λ b. rw b (rest held))
seen_or held p q places v (Some r) own absent rest =
    let path : r.path ≡ q = own r refl in
    let set : at (with_row held r) p ≡ cond (is_same q p) (Some r) (at held p) = at-with_row held r p ∙ ap (λ x. cond (is_same x p) (Some r) (at held p)) path in
    by_test (is_same q p)
    (λ b.
    let gone : looked places v p ≡ None = looked_absent places v p (subst (λ x. place_in places x ≡ None) (same_exact q p b) absent) in
    rw b (rest (with_row held r) ∙ ap (λ o. option_or o (at (with_row held r) p)) gone ∙ set ∙ ap (λ c. cond c (Some r) (at held p)) b))
    (λ b. rw b (rest (with_row held r) ∙ ap (λ o. option_or (looked places v p) o) (set ∙ ap (λ c. cond c (Some r) (at held p)) b)))

at_seen : (n v : ℕ) (p : PathBytes) (places : List Place) → ArePlaces n places → (held : List Row) → at (with_rows held (rows_seen places v)) p ≡ option_or (looked places v p) (at held p)
at_seen n v p [] h held = refl
at_seen n v p (x ∷ places) h held =
    seen_or held p x.path places v (seen_in x.rows v) (λ r e. seen_path x.path n v x.rows r h.0.rows e) h.1 (at_seen n v p places h.2)

-- what a version's table has at a path
pub at-table : (n v : ℕ) (p : PathBytes) (places : List Place) → ArePlaces n places → at (table_at places v) p ≡ looked places v p
at-table n v p places h = at_seen n v p places h [] ∙ or_none (looked places v p)

-- at the path of a place it has what is seen there
pub looked_own : (n v : ℕ) (places : List Place) (i : ℕ) (x : Place) → ArePlaces n places → slice_get places i ≡ Some x → looked places v x.path ≡ seen_in x.rows v
looked_own n v [] i x h e = cc
looked_own n v (y ∷ places) zero x h e =
    let same : y ≡ x = cc in
    subst (λ (z : Place). looked (y ∷ places) v z.path ≡ seen_in z.rows v) same (rw (same_refl y.path) refl)
looked_own n v (y ∷ places) (suc i) x h e =
    let other = same_sym_false x.path y.path (absent_at places y.path i x h.1 e) in
    rw other (looked_own n v places i x h.2 e)

pub row-table : (n v : ℕ) (places : List Place) (i : ℕ) (x : Place) → ArePlaces n places → slice_get places i ≡ Some x → at (table_at places v) x.path ≡ seen_in x.rows v
row-table n v places i x h e = at-table n v x.path places h ∙ looked_own n v places i x h e

looked_later : (n v : ℕ) (p : PathBytes) (places : List Place) → n ≤ v → ArePlaces n places → looked places v p ≡ looked places n p
looked_later n v p [] le h = refl
looked_later n v p (x ∷ places) le h =
    by_test (is_same x.path p)
    (λ b. rw b (seen_later x.path n v x.rows le h.0.rows))
    (λ b. rw b (looked_later n v p places le h.2))

-- what the version of a commit sees
looked_commit : (n v : ℕ) (p path : PathBytes) (ticket : ℕ) (row : Option Row) (places : List Place) → n ≤ v → ArePlaces n places
    → looked (with_commit places path ticket v row) v p ≡ cond (is_same path p) row (looked places n p)
looked_commit n v p path ticket row [] le h = ap (λ o. if is_same path p then o else None) (seen_now v [] row tt)
looked_commit n v p path ticket row (x ∷ places) le h =
    by_test (is_same x.path path)
    (λ b.
    let now = seen_now v x.rows row (lives_past x.path n v x.rows le h.0.rows) in
    let own = same_exact x.path path b in
    let later = looked_later n v p places le h.2 in
    rw b (ap (λ o. if is_same path p then o else looked places v p) now ∙ ap (λ o. cond (is_same path p) row o) later ∙ same_way x own))
    (λ b. by_test (is_same x.path p)
    (λ k.
    let apart : is_same path p ≡ false = ap (is_same path) (sym (same_exact x.path p k)) ∙ same_sym_false x.path path b in
    rw (b, k, apart) (seen_later x.path n v x.rows le h.0.rows))
    (λ k. rw (b, k) (looked_commit n v p path ticket row places le h.2)))
  where
    same_way : (y : Place) → y.path ≡ path → cond (is_same path p) row (looked places n p) ≡ cond (is_same path p) row (if is_same y.path p then seen_in y.rows n else looked places n p)
    same_way y own =
        by_test (is_same path p)
        (λ k. rw k refl)
        (λ k. let l : is_same y.path p ≡ false = ap (λ z. is_same z p) own ∙ k in rw (k, l) refl)

-- versions before a commit have the rows that they had
pub rows_commit : (v w : ℕ) (path : PathBytes) (ticket : ℕ) (row : Option Row) (places : List Place) → w < v → rows_seen (with_commit places path ticket v row) w ≡ rows_seen places w
rows_commit v w path ticket row [] lt = ap (λ o. row_before o []) (seen_before v w [] row lt)
rows_commit v w path ticket row (x ∷ places) lt =
    by_test (is_same x.path path)
    (λ b. rw b (ap (λ o. row_before o (rows_seen places w)) (seen_before v w x.rows row lt)))
    (λ b. rw b (ap (row_before (seen_in x.rows w)) (rows_commit v w path ticket row places lt)))

pub table_earlier : (v w : ℕ) (path : PathBytes) (ticket : ℕ) (row : Option Row) (places : List Place) → w < v → table_at (with_commit places path ticket v row) w ≡ table_at places w
table_earlier v w path ticket row places lt = ap (with_rows []) (rows_commit v w path ticket row places lt)

next_absent : (b : Bool) (o : Option ℕ) → b ≡ false → o ≡ None → (if b then Some 0 else next_place o) ≡ None
next_absent b o h k = rw (h, k) refl

absent_commit : (p path : PathBytes) (ticket v : ℕ) (row : Option Row) (places : List Place) → is_same path p ≡ false → place_in places p ≡ None → place_in (with_commit places path ticket v row) p ≡ None
absent_commit p path ticket v row [] apart h = next_absent (is_same path p) None apart refl
absent_commit p path ticket v row (x ∷ places) apart h =
    by_test (is_same x.path p)
    (λ k. absurd (found (rw k at h)))
    (λ k. by_test (is_same x.path path)
    (λ b. rw b (next_absent (is_same path p) (place_in places p) apart (next_none (place_in places p) (rw k at h))))
    (λ b. rw b (next_absent (is_same x.path p) (place_in (with_commit places path ticket v row) p) k (absent_commit p path ticket v row places apart (next_none (place_in places p) (rw k at h))))))
  where
    found : Some zero ≡ None → ⊥
    found h = cc

places_more : (n v : ℕ) (places : List Place) → n ≤ v → ArePlaces n places → ArePlaces v places
places_more n v [] le h = tt
places_more n v (x ∷ places) le h = (chain_more x.path n v x.rows le h.0, h.1, places_more n v places le h.2)

-- a commit keeps the places in order
pub places_commit : (n v : ℕ) (path : PathBytes) (ticket : ℕ) (row : Option Row) (places : List Place) → n ≤ v → HasPath path row → ArePlaces n places → ArePlaces v (with_commit places path ticket v row)
places_commit n v path ticket row [] le own h = (chain_commit path n v [] row le own (record { rows = tt; ordered = tt }), refl, tt)
places_commit n v path ticket row (x ∷ places) le own h =
    by_test (is_same x.path path)
    (λ b.
    let same = same_exact x.path path b in
    rw b (chain_commit path n v x.rows row le own (subst (λ q. IsChain q n x.rows) same h.0), subst (λ q. place_in places q ≡ None) same h.1, places_more n v places le h.2))
    (λ b. rw b (chain_more x.path n v x.rows le h.0, absent_commit x.path path ticket v row places (same_sym_false x.path path b) h.1, places_commit n v path ticket row places le own h.2))

-- the table of a commit's version
pub table_commit : (n v : ℕ) (path : PathBytes) (ticket : ℕ) (change : Change) (places : List Place) → n ≤ v → HasPath path (row_of path change) → ArePlaces n places
    → table_at (with_commit places path ticket v (row_of path change)) v ≡ after (table_at places n) path change
table_commit n v path ticket change places le own h =
    let row = row_of path change in
    let new = with_commit places path ticket v row in
    same_tables (table_at new v) (after (table_at places n) path change)
    (table_with_rows [] (rows_seen new v) tt)
    (table_after (table_at places n) path change (table_with_rows [] (rows_seen places n) tt))
    (λ p. at-table v v p new (places_commit n v path ticket row places le own h) ∙ looked_commit n v p path ticket row places le h
    ∙ ap (λ o. cond (is_same path p) row o) (sym (at-table n n p places h)) ∙ sym (at-after (table_at places n) path change p))

length_commit : (v : ℕ) (chain : List KeptRow) (row : Option Row) → length (with_row_at chain v row) ≡ length chain + one_if row
length_commit v chain None = let e = length-map chain (end_at v) in omega arith
length_commit v chain (Some r) = let e = length-map chain (end_at v) in let f = length-append (map (end_at v) chain) (record { row = r; from = v; until = None } ∷ []) in omega arith

pub kept_commit : (v : ℕ) (path : PathBytes) (ticket : ℕ) (row : Option Row) (places : List Place) → kept_of (with_commit places path ticket v row) ≡ kept_of places + one_if row
kept_commit v path ticket row [] = let e = length_commit v [] row in omega arith
kept_commit v path ticket row (x ∷ places) =
    let e = length_commit v x.rows row in
    let rest = kept_commit v path ticket row places in
    by_test (is_same x.path path)
    (λ b. rw b (omega arith))
    (λ b. rw b (omega arith))

-- the stamps after a commit
pub stamps_commit : (v : ℕ) (path : PathBytes) (ticket : ℕ) (row : Option Row) (places : List Place) → stamps_of (with_commit places path ticket v row) ≡ with_stamp (stamps_of places) (record { path = path; ticket = ticket })
stamps_commit v path ticket row [] = refl
stamps_commit v path ticket row (x ∷ places) =
    by_test (is_same x.path path)
    (λ b. rw b refl)
    (λ b. rw b (ap (λ rest. record { path = x.path; ticket = x.stamp } ∷ rest) (stamps_commit v path ticket row places)))

-- versions that can be read have the rows that they had before a vacuum
pub rows_vacuum : (n w : ℕ) (pins : List ℕ) (places : List Place) → (w == n) || list_any (λ pin. pin == w) pins ≡ true → rows_seen (places_seen n pins places) w ≡ rows_seen places w
rows_vacuum n w pins [] h = refl
rows_vacuum n w pins (x ∷ places) h =
    ap (λ o. row_before o (rows_seen (places_seen n pins places) w)) (seen_vacuum n w pins x.rows h) ∙ ap (row_before (seen_in x.rows w)) (rows_vacuum n w pins places h)

pub table_vacuum : (n w : ℕ) (pins : List ℕ) (places : List Place) → (w == n) || list_any (λ pin. pin == w) pins ≡ true → table_at (places_seen n pins places) w ≡ table_at places w
table_vacuum n w pins places h = ap (with_rows []) (rows_vacuum n w pins places h)

place_vacuum : (n : ℕ) (pins : List ℕ) (p : PathBytes) (places : List Place) → place_in (places_seen n pins places) p ≡ place_in places p
place_vacuum n pins p [] = refl
place_vacuum n pins p (x ∷ places) = ap (λ o. if is_same x.path p then Some 0 else next_place o) (place_vacuum n pins p places)

pub places_vacuum : (n : ℕ) (pins : List ℕ) (places : List Place) → ArePlaces n places → ArePlaces n (places_seen n pins places)
places_vacuum n pins [] h = tt
places_vacuum n pins (x ∷ places) h =
    (chain_filter x.path n (is_seen n pins) x.rows h.0, place_vacuum n pins x.path places ∙ h.1, places_vacuum n pins places h.2)
