-- Rows that are kept by a vacuum are shown by a version that can be read.
use Rattle.std.proofs.Common.{◌≡◌, ℕ, ◌≤◌, Bool, true, false, List, [], ◌∷◌, filter, refl, ap, ◌∙◌, arith}
use Rattle.std.specs.Prelude.{Option, None, Some, ◌==◌, ◌&&◌, ◌||◌, nat_le, find}
use Rattle.std.specs.List.{list_any, AllByRecursion}
use Rattle.std.proofs.lemmas.Bool.Decides.{nat_tests}
use Rattle.std.proofs.lemmas.Bool.{or_right}
use Rattle.md_world.proofs.Lookups.{by_test}
use Rattle.md_store.specs.declared.chain.KeptRow.{KeptRow}
use Rattle.md_store.specs.Chains.{sees, is_before_end, is_seen, seen_of, EndsBy, Precedes, IsOrdered}
use Rattle.md_store.specs.Places.{Place, places_seen, ArePlaces}
use Rattle.md_store.specs.Stores.{IsShownBy, AreShown}
use Rattle.md_store.proofs.Laws.{ordered_filter}

and_left : (a b : Bool) → a && b ≡ true → a ≡ true
and_left true b h = refl
and_left false b h = cc

ended_unseen : (v : ℕ) (later : ℕ) (o : Option ℕ) → nat_le later v ≡ true → EndsBy later o → is_before_end v o ≡ false
ended_unseen v later None h e = absurd e
ended_unseen v later (Some end) h e = let le : later ≤ v = grind (arith, nat_tests) in let past : end ≤ v = omega arith in grind (arith, nat_tests)

and_no : (b : Bool) → b && false ≡ false
and_no true = refl
and_no false = refl

first_by : (v : ℕ) (l : KeptRow) (chain : List KeptRow) (rest : List KeptRow) → AllByRecursion (Precedes l) rest → AllByRecursion (λ kept. sees v kept ≡ true → find (sees v) chain ≡ Some kept) rest
    → AllByRecursion (λ kept. sees v kept ≡ true → find (sees v) (l ∷ chain) ≡ Some kept) rest
first_by v l chain [] h k = tt
first_by v l chain (m ∷ rest) h k = (
  (λ e.
      let past : is_before_end v l.until ≡ false = ended_unseen v m.from l.until (and_left (nat_le m.from v) (is_before_end v m.until) e) h.0.until in
      let unseen : sees v l ≡ false = ap (λ b. nat_le l.from v && b) past ∙ and_no (nat_le l.from v) in
      rw unseen (k.0 e)),
  first_by v l chain rest h.1 k.1,
)

-- of rows in order, one that a version sees is the one that it shows
found_self : (v : ℕ) (chain : List KeptRow) → IsOrdered chain → AllByRecursion (λ kept. sees v kept ≡ true → find (sees v) chain ≡ Some kept) chain
found_self v [] h = tt
found_self v (l ∷ chain) h = ((λ e. rw e refl), first_by v l chain chain h.0 (found_self v chain h.1))

pinned_sees : (pins : List ℕ) (l : KeptRow) → list_any (λ v. sees v l) pins ≡ true → (v : ℕ) × (list_any (λ pin. pin == v) pins ≡ true) × (sees v l ≡ true)
pinned_sees [] l h = cc
pinned_sees (pin ∷ pins) l h =
    by_test (sees pin l)
    (λ e. let same : (pin == pin) ≡ true = grind (arith, nat_tests) in (pin, rw same refl, e))
    (λ e.
    let rest = pinned_sees pins l (rw e at h) in
    (rest.0, or_right (pin == rest.0) (list_any (λ p. p == rest.0) pins) rest.1, rest.2))

sees_some : (n : ℕ) (pins : List ℕ) (l : KeptRow) → is_seen n pins l ≡ true → (v : ℕ) × ((v == n) || list_any (λ pin. pin == v) pins ≡ true) × (sees v l ≡ true)
sees_some n pins l h =
    by_test (sees n l)
    (λ e. let same : (n == n) ≡ true = grind (arith, nat_tests) in (n, rw same refl, e))
    (λ e.
    let rest = pinned_sees pins l (rw e at h) in
    (rest.0, or_right (rest.0 == n) (list_any (λ p. p == rest.0) pins) rest.1, rest.2))

passed : (t : KeptRow → Bool) (chain : List KeptRow) → AllByRecursion (λ l. t l ≡ true) (filter t chain)
passed t [] = tt
passed t (l ∷ chain) = by_test (t l) (λ e. rw e (e, passed t chain)) (λ e. rw e (passed t chain))

shown_each : (n : ℕ) (pins : List ℕ) (chain rest : List KeptRow) → IsOrdered chain → AllByRecursion (λ l. is_seen n pins l ≡ true) rest → ((v : ℕ) → AllByRecursion (λ kept. sees v kept ≡ true → find (sees v) chain ≡ Some kept) rest)
    → AllByRecursion (IsShownBy n pins chain) rest
shown_each n pins chain [] o h k = tt
shown_each n pins chain (l ∷ rest) o h k =
    let s = sees_some n pins l h.0 in
    (record { version = s.0; readable = s.1; shows = (k s.0).0 s.2 }, shown_each n pins chain rest o h.1 (λ v. (k v).1))

shown_chain : (n : ℕ) (pins : List ℕ) (chain : List KeptRow) → IsOrdered chain → AllByRecursion (IsShownBy n pins (seen_of n pins chain)) (seen_of n pins chain)
shown_chain n pins chain o =
    let ordered = ordered_filter (is_seen n pins) chain o in
    shown_each n pins (seen_of n pins chain) (seen_of n pins chain) ordered (passed (is_seen n pins) chain) (λ v. found_self v (seen_of n pins chain) ordered)

-- after a vacuum each kept row is shown
pub shown_places : (n : ℕ) (pins : List ℕ) (places : List Place) → ArePlaces n places → AreShown n pins (places_seen n pins places)
shown_places n pins [] h = tt
shown_places n pins (x ∷ places) h = (shown_chain n pins x.rows h.0.ordered, shown_places n pins places h.2)
