-- Sums over lists, prefixes of a journal, and entries by place.
use Rattle.std.proofs.Common.{◌≡◌, inl, inr, ℕ, zero, suc, ◌+◌, ◌<◌, ◌≤◌, ◌==◌, nat_lt, Bool, true, false, List, [], ◌∷◌, ◌++◌, length, All, set, refl, sym, ap, ◌∙◌, subst, arith, if◌then◌else◌, append_assoc}
use Rattle.std.proofs.lemmas.Bool.{cases_Bool}
use Rattle.std.proofs.lemmas.Bool.Decides.{nat_tests}
use Rattle.std.proofs.lemmas.List.{append_cancel_left}
use Rattle.std.proofs.lemmas.List.Elements.{All-weaker, All-nil, All-cons, All-head, All-tail, All-push}
use mathlib.Core.Option.{some, some-ne-none, some-injective}
use lib.ListN.{get_elem?}
use Rattle.atomic_table.proofs.Lists.{at_longer}
use Rattle.md_machine.specs.declared.Event.{Event}
use Rattle.md_machine.specs.States.{State as ServerState}
use Rattle.md_machine.specs.Steps.{StepResult}
use Rattle.md_turn.specs.declared.journal.JournalEntry.{JournalEntry}
use Rattle.md_turn.specs.Journal.{after, Legal, IsPrefix, Has, total_of, times, once_below, Apart, longer, shorter, put, merge, Rises}

module _ {V : Type 0} where
  pub total_append : (f : V → ℕ) (xs ys : List V) → total_of f (xs ++ ys) ≡ total_of f xs + total_of f ys
  total_append f [] ys = omega arith
  total_append f (x ∷ xs) ys = let rest = total_append f xs ys in omega arith

  pub total_snoc : (f : V → ℕ) (xs : List V) (y : V) → total_of f (xs ++ y ∷ []) ≡ total_of f xs + f y
  total_snoc f xs y = let all = total_append f xs (y ∷ []) in omega arith

  -- a sum after a change of one element
  pub sum_set : (f : V → ℕ) (views : List V) (id : ℕ) (v w : V) → get_elem? views id ≡ some v → total_of f (set views id w) + f v ≡ total_of f views + f w
  sum_set f [] id v w e = absurd (some-ne-none v (sym e))
  sum_set f (x ∷ xs) zero v w e = let same : f x ≡ f v = ap f (some-injective x v e) in omega arith
  sum_set f (x ∷ xs) (suc id) v w e = let rest = sum_set f xs id v w e in omega arith

  pub sums_le : (a b : V → ℕ) (views : List V) → ((id : ℕ) (v : V) → get_elem? views id ≡ some v → a v ≤ b v) → total_of a views ≤ total_of b views
  sums_le a b [] each = omega arith
  sums_le a b (x ∷ xs) each = let head : a x ≤ b x = each 0 x refl in let rest = sums_le a b xs (λ id. each (suc id)) in omega arith

  -- room at one element is room in all
  pub sums_room : (a b : V → ℕ) (views : List V) → ((id : ℕ) (v : V) → get_elem? views id ≡ some v → a v ≤ b v) → (id : ℕ) (v : V) → get_elem? views id ≡ some v → total_of a views + b v ≤ total_of b views + a v
  sums_room a b [] each id v e = absurd (some-ne-none v (sym e))
  sums_room a b (x ∷ xs) each zero v e =
      let p : a x ≡ a v = ap a (some-injective x v e) in let q : b x ≡ b v = ap b (some-injective x v e) in
      let rest = sums_le a b xs (λ id. each (suc id)) in omega arith
  sums_room a b (x ∷ xs) each (suc id) v e =
      let head : a x ≤ b x = each 0 x refl in let rest = sums_room a b xs (λ id. each (suc id)) id v e in omega arith

-- of two prefixes of one list, the shorter is a prefix of the longer
module _ {A : Type 0} where
  pub prefix_refl : (xs : List A) → IsPrefix xs xs
  prefix_refl xs = ([], sym (append_nil xs))
    where
      append_nil : (ys : List A) → ys ++ [] ≡ ys
      append_nil [] = refl
      append_nil (y ∷ ys) = ap (λ zs. y ∷ zs) (append_nil ys)

  pub prefix_trans : (xs ys zs : List A) → IsPrefix xs ys → IsPrefix ys zs → IsPrefix xs zs
  prefix_trans xs ys zs p q = (p.0 ++ q.0, q.1 ∙ ap (λ ws. ws ++ q.0) p.1 ∙ append_assoc xs p.0 q.0)

  pub prefix_append : (xs ys : List A) → IsPrefix xs (xs ++ ys)
  prefix_append xs ys = (ys, refl)

  prefixes : (xs ys p q : List A) → xs ++ p ≡ ys ++ q → length xs ≤ length ys → IsPrefix xs ys
  prefixes [] ys p q e le = (ys, refl)
  prefixes (x ∷ xs) [] p q e le = absurd (omega arith)
  prefixes (x ∷ xs) (y ∷ ys) p q e le =
      let heads : x ≡ y = cc in
      let tails : xs ++ p ≡ ys ++ q = cc in
      let r = prefixes xs ys p q tails (omega arith) in
      (r.0, λ i. sym heads i ∷ r.1 i)

  pub prefix_both : (xs ys zs : List A) → IsPrefix xs zs → IsPrefix ys zs → length xs ≤ length ys → IsPrefix xs ys
  prefix_both xs ys zs p q le = prefixes xs ys p.0 q.0 (sym p.1 ∙ q.1) le

  pub snoc_injective : (xs : List A) (a b : A) → xs ++ a ∷ [] ≡ xs ++ b ∷ [] → a ≡ b
  snoc_injective xs a b e = let t = append_cancel_left xs (a ∷ []) (b ∷ []) e in cc

  pub at_below : (xs : List A) (i : ℕ) (a : A) → get_elem? xs i ≡ some a → i < length xs
  at_below [] i a e = absurd (some-ne-none a (sym e))
  at_below (x ∷ xs) zero a e = omega arith
  at_below (x ∷ xs) (suc i) a e = let r = at_below xs i a e in omega arith

  pub at_end : (xs : List A) (a : A) → get_elem? (xs ++ a ∷ []) (length xs) ≡ some a
  at_end [] a = refl
  at_end (x ∷ xs) a = at_end xs a

module _ (machine : ServerState → Event → StepResult) where
  pub after_append : (s : ServerState) (xs ys : List JournalEntry) → after machine s (xs ++ ys) ≡ after machine (after machine s xs) ys
  after_append s [] ys = refl
  after_append s (x ∷ xs) ys = after_append (machine s x.event).state xs ys

  pub legal_push : (n : ℕ) (s : ServerState) (xs : List JournalEntry) (e : JournalEntry) → Legal machine n s xs → e.place ≡ n + length xs + 1 → e.reply ≡ (machine (after machine s xs) e.event).reply → Legal machine n s (xs ++ e ∷ [])
  legal_push n s [] e l p r = (omega arith, r, tt)
  legal_push n s (x ∷ xs) e l p r = (l.0, l.1, legal_push (n + 1) (machine s x.event).state xs e l.2 (omega arith) r)

  pub legal_rest : (n : ℕ) (s : ServerState) (xs ys : List JournalEntry) → Legal machine n s (xs ++ ys) → Legal machine (n + length xs) (after machine s xs) ys
  legal_rest n s [] ys l = let e : n + 0 ≡ n = omega arith in subst (λ k. Legal machine k s ys) (sym e) l
  legal_rest n s (x ∷ xs) ys l =
      let e : n + 1 + length xs ≡ n + (length xs + 1) = omega arith in
      let f : length (x ∷ xs) ≡ length xs + 1 = omega arith in
      subst (λ k. Legal machine k (after machine (machine s x.event).state xs) ys) (e ∙ ap (λ k. n + k) (sym f)) (legal_rest (n + 1) (machine s x.event).state xs ys l.2)

  pub places_above : (n m : ℕ) (s : ServerState) (xs : List JournalEntry) → n ≤ m → Legal machine m s xs → All (λ (e : JournalEntry). n < e.place) xs
  places_above n m s [] le l = All-nil (λ (e : JournalEntry). n < e.place)
  places_above n m s (x ∷ xs) le l =
      let at : x.place ≡ m + 1 = l.0 in
      All-cons (λ (e : JournalEntry). n < e.place) x xs (omega arith) (places_above n (m + 1) (machine s x.event).state xs (omega arith) l.2)

pub has_more : (xs ys : List JournalEntry) → IsPrefix xs ys → (es : List JournalEntry) → All (Has xs) es → All (Has ys) es
has_more xs ys b = All-weaker (Has xs) (Has ys) (λ e h. (h.0, h.1, subst (λ zs. get_elem? zs h.0 ≡ some e) (sym b.1) (at_longer xs b.0 h.0 e h.2)))

-- where entries stand in a journal, no entry has a place behind it
pub none_behind : (js : List JournalEntry) (i : ℕ) (es : List JournalEntry) → All (Has js) es → length js ≤ i → times i es ≡ 0
none_behind js i [] all le = refl
none_behind js i (e ∷ es) all le =
    let rest = none_behind js i es (All-tail (Has js) e es all) le in
    let h = All-head (Has js) e es all in
    let below : h.0 < length js = at_below js h.0 e h.2 in
    let at : e.place ≡ h.0 + 1 = h.1 in
    let off : (e.place == i + 1) ≡ false = grind (arith, nat_tests) in
    let last : 0 + times i es ≡ 0 = omega arith in
    ap (λ (b : Bool). (if b then 1 else 0) + times i es) off ∙ last

pub apart_behind : (js own others : List JournalEntry) → All (Has js) own → All (λ (e : JournalEntry). length js < e.place) others → Apart own others
apart_behind js own others has = All-weaker (λ (e : JournalEntry). length js < e.place) (λ (e : JournalEntry). (i : ℕ) → e.place ≡ i + 1 → times i own ≡ 0) (λ e lt i at. none_behind js i own has (omega arith)) others

pub once_more : (i n : ℕ) → once_below i n + (if n + 1 == i + 1 then 1 else 0) ≡ once_below i (n + 1)
once_more i n = grind (arith, nat_tests)

pub total_put : (f : JournalEntry → ℕ) (e : JournalEntry) (xs : List JournalEntry) → total_of f (put e xs) ≡ f e + total_of f xs
total_put f e [] = refl
total_put f e (x ∷ xs) =
    elim (nat_lt e.place x.place) as (λ b. total_of f (if b then e ∷ x ∷ xs else x ∷ put e xs) ≡ f e + (f x + total_of f xs)) [
      | true ↦ refl
      | false ↦ let rest = total_put f e xs in omega arith
    ]

pub total_merge : (f : JournalEntry → ℕ) (xs ys : List JournalEntry) → total_of f (merge xs ys) ≡ total_of f xs + total_of f ys
total_merge f [] ys = omega arith
total_merge f (x ∷ xs) ys = let a = total_put f x (merge xs ys) in let b = total_merge f xs ys in omega arith

pub length_total : (xs : List JournalEntry) → length xs ≡ total_of (λ (_ : JournalEntry). 1) xs
length_total [] = refl
length_total (x ∷ xs) = let rest = length_total xs in omega arith

pub length_merge : (xs ys : List JournalEntry) → length (merge xs ys) ≡ length xs + length ys
length_merge xs ys = length_total (merge xs ys) ∙ total_merge (λ (_ : JournalEntry). 1) xs ys ∙ (λ i. sym (length_total xs) i + sym (length_total ys) i)

pub all_put : (P : JournalEntry → Type 0) (e : JournalEntry) (xs : List JournalEntry) → P e → All P xs → All P (put e xs)
all_put P e [] p q = All-cons P e [] p (All-nil P)
all_put P e (x ∷ xs) p q =
    elim (nat_lt e.place x.place) as (λ b. All P (if b then e ∷ x ∷ xs else x ∷ put e xs)) [
      | true ↦ All-cons P e (x ∷ xs) p q
      | false ↦ All-cons P x (put e xs) (All-head P x xs q) (all_put P e xs p (All-tail P x xs q))
    ]

pub all_merge : (P : JournalEntry → Type 0) (xs ys : List JournalEntry) → All P xs → All P ys → All P (merge xs ys)
all_merge P [] ys p q = q
all_merge P (x ∷ xs) ys p q = all_put P x (merge xs ys) (All-head P x xs p) (all_merge P xs ys (All-tail P x xs p) q)

pub longer_either : (P : List JournalEntry → Type 0) (xs ys : List JournalEntry) → P xs → P ys → P (longer xs ys)
longer_either P xs ys p q = elim (nat_lt (length xs) (length ys)) as (λ b. P (if b then ys else xs)) [ true ↦ q | false ↦ p ]

pub shorter_either : (P : List JournalEntry → Type 0) (xs ys : List JournalEntry) → P xs → P ys → P (shorter xs ys)
shorter_either P xs ys p q = elim (nat_lt (length xs) (length ys)) as (λ b. P (if b then xs else ys)) [ true ↦ p | false ↦ q ]

pub shorter_le : (xs ys : List JournalEntry) → length (shorter xs ys) ≤ length (longer xs ys)
shorter_le xs ys = grind (arith, nat_tests)

-- each of two prefixes of one journal is a prefix of the longer
pub prefix_longer : (xs ys zs : List JournalEntry) → IsPrefix xs zs → IsPrefix ys zs → IsPrefix xs (longer xs ys) × IsPrefix ys (longer xs ys)
prefix_longer xs ys zs p q =
    let l = longer_either (λ ws. IsPrefix ws zs) xs ys p q in
    let a : length xs ≤ length (longer xs ys) = grind (arith, nat_tests) in
    let b : length ys ≤ length (longer xs ys) = grind (arith, nat_tests) in
    (prefix_both xs (longer xs ys) zs p l a, prefix_both ys (longer xs ys) zs q l b)

pub times_le : (i : ℕ) (es : List JournalEntry) → times i es ≤ length es
times_le i [] = omega arith
times_le i (e ∷ es) = let rest = times_le i es in grind (arith, nat_tests)

pub none_below : (i : ℕ) → once_below i 0 ≡ 0
none_below i = grind (arith, nat_tests)

rises_put : (e : JournalEntry) (xs : List JournalEntry) → Rises xs → Rises (put e xs)
rises_put e [] r = (All-nil (λ (y : JournalEntry). e.place ≤ y.place), tt)
rises_put e (x ∷ xs) r =
    elim (cases_Bool (nat_lt e.place x.place)) [
      | inl t ↦ subst (λ b. Rises (if b then e ∷ x ∷ xs else x ∷ put e xs)) (sym t)
          (let lt : e.place < x.place = grind (arith, nat_tests) in
          (All-cons (λ (y : JournalEntry). e.place ≤ y.place) x xs (omega arith) (All-weaker (λ (y : JournalEntry). x.place ≤ y.place) (λ (y : JournalEntry). e.place ≤ y.place) (λ y le. omega arith) xs r.0), r))
      | inr f ↦ subst (λ b. Rises (if b then e ∷ x ∷ xs else x ∷ put e xs)) (sym f)
          (let le : x.place ≤ e.place = grind (arith, nat_tests) in
          (all_put (λ (y : JournalEntry). x.place ≤ y.place) e xs le r.0, rises_put e xs r.1))
    ]

pub rises_merge : (xs ys : List JournalEntry) → Rises ys → Rises (merge xs ys)
rises_merge [] ys r = r
rises_merge (x ∷ xs) ys r = rises_put x (merge xs ys) (rises_merge xs ys r)

pub rises_push : (xs : List JournalEntry) (e : JournalEntry) → Rises xs → All (λ (x : JournalEntry). x.place ≤ e.place) xs → Rises (xs ++ e ∷ [])
rises_push [] e r below = (All-nil (λ (y : JournalEntry). e.place ≤ y.place), tt)
rises_push (x ∷ xs) e r below = (
  All-push (λ (y : JournalEntry). x.place ≤ y.place) xs e r.0 (All-head (λ (y : JournalEntry). y.place ≤ e.place) x xs below),
  rises_push xs e r.1 (All-tail (λ (y : JournalEntry). y.place ≤ e.place) x xs below),
)

-- entries that stand in a journal have no place above its length
pub has_below : (js : List JournalEntry) (n : ℕ) → length js ≤ n → (es : List JournalEntry) → All (Has js) es → All (λ (x : JournalEntry). x.place ≤ n) es
has_below js n le = All-weaker (Has js) (λ (x : JournalEntry). x.place ≤ n) (λ x h. let below = at_below js h.0 x h.2 in let at : x.place ≡ h.0 + 1 = h.1 in omega arith)
