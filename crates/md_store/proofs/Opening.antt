-- Open tickets that are found, opened and closed.
use Rattle.std.proofs.Common.{◌≡◌, ℕ, ◌+◌, ◌<◌, ◌≤◌, true, false, List, [], ◌∷◌, ◌++◌, length, refl, sym, ap, ◌∙◌, arith}
use Rattle.std.specs.Prelude.{Option, None, Some, ◌==◌, is_some, IsSome, nat_lt}
use Rattle.std.specs.Option.{option_map, option_copied}
use Rattle.std.specs.List.{AllByRecursion}
use Rattle.std.specs.Ordering.{nat_cmp, is_eq}
use Rattle.std.specs.Map.{lookup, remove_entry}
use Rattle.std.specs.BTreeMap.{insert_entry, is_at}
use Rattle.std.proofs.lemmas.Bool.Decides.{nat_tests}
use Rattle.std.proofs.lemmas.Bool.{true≢false}
use denote.Ref.{Bor}
use Rattle.md_value.specs.Values.{PathBytes}
use Rattle.md_world.specs.Tickets.{Ticket, ticket_at, without_ticket}
use Rattle.md_world.proofs.Lookups.{by_test}
use Rattle.md_world.proofs.Lists.{all_more}
use Rattle.md_store.specs.Open.{with_path, tickets_of, AreDrawn}

-- a number is compared to a key as the tickets' own test does
key_at : (n k : ℕ) → is_eq (nat_cmp n k) ≡ (k == n)
key_at n k =
    by_test (nat_lt n k)
    (λ b. let e : (k == n) ≡ false = grind (arith, nat_tests) in rw (b, e) refl)
    (λ b. by_test (n == k)
    (λ c. let e : (k == n) ≡ true = grind (arith, nat_tests) in rw (b, c, e) refl)
    (λ c. let e : (k == n) ≡ false = grind (arith, nat_tests) in rw (b, c, e) refl))

same_number : (n k : ℕ) (p : PathBytes) → (k == n) ≡ true → with_path k p ≡ with_path n p
same_number n k p h = let e : k ≡ n = grind (arith, nat_tests) in ap (λ m. with_path m p) e

-- a look-up by number finds the open ticket
pub found : (pairs : List (ℕ × PathBytes)) (n : ℕ) → option_map (with_path n) (lookup (is_at (nat_cmp n)) pairs) ≡ ticket_at (tickets_of pairs) n
found [] n = refl
found (pair ∷ pairs) n =
    by_test (pair.0 == n)
    (λ b. rw (key_at n pair.0 ∙ b, b) (ap Some (sym (same_number n pair.0 pair.1 b))))
    (λ b. rw (key_at n pair.0 ∙ b, b) (found pairs n))

-- what is found behind a reference, as it is found
pub copied : (n : ℕ) (o : Option (Bor PathBytes)) → option_map (λ key. with_path n key.now) o ≡ option_map (with_path n) (option_copied o)
copied n None = refl
copied n (Some key) = refl

is_later : (n k : ℕ) → k < n → (nat_lt n k ≡ false) × ((n == k) ≡ false)
is_later n k h = (grind (arith, nat_tests), grind (arith, nat_tests))

-- a new greatest number goes last
pub opened : (pairs : List (ℕ × PathBytes)) (drawn n : ℕ) (p : PathBytes) → AreDrawn drawn (tickets_of pairs) → drawn < n → tickets_of (insert_entry nat_cmp pairs n p) ≡ tickets_of pairs ++ with_path n p ∷ []
opened [] drawn n p h lt = refl
opened (pair ∷ pairs) drawn n p h lt =
    let le = h.0 in
    let later = is_later n pair.0 (omega arith) in
    rw (later.0, later.1) (ap (λ rest. with_path pair.0 pair.1 ∷ rest) (opened pairs drawn n p h.2 lt))

none_more : (n : ℕ) (tickets : List Ticket) → AllByRecursion (λ (later : Ticket). n < later.number) tickets → without_ticket tickets n ≡ tickets
none_more n [] h = refl
none_more n (t ∷ tickets) h =
    let lt = h.0 in
    let apart : (t.number == n) ≡ false = grind (arith, nat_tests) in
    rw apart (ap (λ rest. t ∷ rest) (none_more n tickets h.1))

same_more : (n k : ℕ) (tickets : List Ticket) → (k == n) ≡ true → AllByRecursion (λ (later : Ticket). k < later.number) tickets → without_ticket tickets n ≡ tickets
same_more n k [] b h = refl
same_more n k (t ∷ tickets) b h =
    let lt = h.0 in
    let apart : (t.number == n) ≡ false = grind (arith, nat_tests) in
    rw apart (ap (λ rest. t ∷ rest) (same_more n k tickets b h.1))

-- a number that is taken out is no open ticket's
pub closed : (pairs : List (ℕ × PathBytes)) (drawn n : ℕ) → AreDrawn drawn (tickets_of pairs) → tickets_of (remove_entry (is_at (nat_cmp n)) pairs) ≡ without_ticket (tickets_of pairs) n
closed [] drawn n h = refl
closed (pair ∷ pairs) drawn n h =
    by_test (pair.0 == n)
    (λ b. rw (key_at n pair.0 ∙ b, b) (sym (same_more n pair.0 (tickets_of pairs) b h.1)))
    (λ b. rw (key_at n pair.0 ∙ b, b) (ap (λ rest. with_path pair.0 pair.1 ∷ rest) (closed pairs drawn n h.2)))

-- and it was one where it is looked up
pub was_open : (pairs : List (ℕ × PathBytes)) (n : ℕ) → is_some (lookup (is_at (nat_cmp n)) pairs) ≡ is_some (ticket_at (tickets_of pairs) n)
was_open [] n = refl
was_open (pair ∷ pairs) n =
    by_test (pair.0 == n)
    (λ b. rw (key_at n pair.0 ∙ b, b) refl)
    (λ b. rw (key_at n pair.0 ∙ b, b) (was_open pairs n))

-- one more that is drawn
pub drawn_more : (tickets : List Ticket) (drawn : ℕ) (p : PathBytes) → AreDrawn drawn tickets → AreDrawn (drawn + 1) (tickets ++ with_path (drawn + 1) p ∷ [])
drawn_more [] drawn p h = (omega arith, tt, tt)
drawn_more (t ∷ tickets) drawn p h =
    let le = h.0 in
    (omega arith, all_more (λ (later : Ticket). t.number < later.number) tickets (with_path (drawn + 1) p) h.1 (omega arith), drawn_more tickets drawn p h.2)

all_without : (P : Ticket → Type 0) (tickets : List Ticket) (n : ℕ) → AllByRecursion P tickets → AllByRecursion P (without_ticket tickets n)
all_without P [] n h = tt
all_without P (t ∷ tickets) n h =
    by_test (t.number == n)
    (λ b. rw b (all_without P tickets n h.1))
    (λ b. rw b (h.0, all_without P tickets n h.1))

-- and one that is closed
pub drawn_less : (tickets : List Ticket) (drawn n : ℕ) → AreDrawn drawn tickets → AreDrawn drawn (without_ticket tickets n)
drawn_less [] drawn n h = tt
drawn_less (t ∷ tickets) drawn n h =
    by_test (t.number == n)
    (λ b. rw b (drawn_less tickets drawn n h.2))
    (λ b. rw b (h.0, all_without (λ (later : Ticket). t.number < later.number) tickets n h.1, drawn_less tickets drawn n h.2))

pub fewer : (tickets : List Ticket) (number : ℕ) → length (without_ticket tickets number) ≤ length tickets
fewer [] number = omega arith
fewer (t ∷ tickets) number =
    let rest = fewer tickets number in
    by_test (t.number == number)
    (λ b. rw b (omega arith))
    (λ b. rw b (omega arith))

pub one_less : (tickets : List Ticket) (number : ℕ) → IsSome (ticket_at tickets number) → length (without_ticket tickets number) < length tickets
one_less [] number h = cc
one_less (t ∷ tickets) number h =
    by_test (t.number == number)
    (λ b. let rest = fewer tickets number in rw b (omega arith))
    (λ b. let rest = one_less tickets number (rw b at h) in rw b (omega arith))

-- where a number is no open ticket's, closing it changes nothing
pub none_open : (tickets : List Ticket) (number : ℕ) → is_some (ticket_at tickets number) ≡ false → without_ticket tickets number ≡ tickets
none_open [] number h = refl
none_open (t ∷ tickets) number h =
    by_test (t.number == number)
    (λ b. absurd (true≢false (rw b at h)))
    (λ b. rw b (ap (λ rest. t ∷ rest) (none_open tickets number (rw b at h))))
