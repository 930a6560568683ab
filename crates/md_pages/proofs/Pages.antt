-- Pages of slots: where a slot lies, and what an edit of the pages makes of the slots.
use Rattle.std.proofs.Common.{◌≡◌, ℕ, zero, suc, ◌+◌, ◌-◌, ◌*◌, ◌<◌, ◌≤◌, Bool, true, false, List, [], ◌∷◌, ◌++◌, length, insert, get_or, refl, sym, ◌∙◌, ap, subst, arith}
use Rattle.std.specs.Prelude.{None, Some, slice_get}
use Rattle.std.specs.List.{remove, prefix_len}
use Rattle.std.specs.List.Sorted.{IsPartitionedBy}
use Rattle.std.specs.Option.{option_to_list}
use Rattle.std.proofs.Math.Dec.{ltb}
use Rattle.std.proofs.lemmas.Bool.{ltb-true, ltb-false}
use Rattle.std.proofs.lemmas.List.{length-append, append-nil}
use Rattle.std.proofs.lemmas.List.Sums.{prefix_len_is}
use Rattle.std.proofs.lemmas.List.Edits.{insert-append_right, remove-append_right}
use Rattle.std.proofs.lemmas.Option.{slice_get_past, slice_get_within, get_or_from_slice_get}
use Rattle.md_world.proofs.Lookups.{by_test}
use Rattle.md_pages.specs.Pages.{Listed, slots_in, ArePages}

get_prefix : (xs ys : List ℕ) (i : ℕ) → i < length xs → slice_get (xs ++ ys) i ≡ slice_get xs i
get_prefix [] ys i lt = absurd (omega arith)
get_prefix (x ∷ xs) ys zero lt = refl
get_prefix (x ∷ xs) ys (suc i) lt = get_prefix xs ys i (omega arith)

get_back : (xs ys : List ℕ) (i : ℕ) → slice_get (xs ++ ys) (length xs + i) ≡ slice_get ys i
get_back [] ys i = let none : length {A = ℕ} [] + i ≡ i = omega arith in ap (slice_get ys) none
get_back (x ∷ xs) ys i = let one : length (x ∷ xs) + i ≡ suc (length xs + i) = omega arith in ap (slice_get (x ∷ (xs ++ ys))) one ∙ get_back xs ys i

-- a page that is full, or the last one with slots
full_or_last : (P : Type 0) (page : Listed) (pages : List Listed) → ArePages (page ∷ pages) → (length page.items ≡ 1024 → P) → (length page.items < 1024 → slots_in pages ≡ [] → P) → P
full_or_last P page pages h full last =
    by_test (ltb (length page.items) 1024)
    (λ e. let lt = ltb-true (length page.items) 1024 e in last lt (h.2 lt))
    (λ e. let le = ltb-false (length page.items) 1024 e in let most = h.1 in full (omega arith))

pub none_at : (slots : List ℕ) (i : ℕ) → slots ≡ [] → slice_get slots i ≡ None
none_at slots i e = subst (λ xs. slice_get xs i ≡ None) (sym e) refl

-- the slots past the first page
pub past_page : (page : Listed) (pages : List Listed) (k : ℕ) → ArePages (page ∷ pages) → slice_get (slots_in (page ∷ pages)) (1024 + k) ≡ slice_get (slots_in pages) k
past_page page pages k h =
    full_or_last _ page pages h
    (λ full. ap (λ n. slice_get (page.items ++ slots_in pages) (n + k)) (sym full) ∙ get_back page.items (slots_in pages) k)
    (λ short none.
    let past : slice_get page.items (1024 + k) ≡ None = slice_get_past page.items (1024 + k) (omega arith) in
    ap (λ xs. slice_get (page.items ++ xs) (1024 + k)) none ∙ ap (λ xs. slice_get xs (1024 + k)) (append-nil page.items) ∙ past ∙ sym (none_at (slots_in pages) k none))

-- the slots of the first page
pub first_page : (page : Listed) (pages : List Listed) (k : ℕ) → k < 1024 → ArePages (page ∷ pages) → slice_get (slots_in (page ∷ pages)) k ≡ slice_get page.items k
first_page page pages k lt h =
    full_or_last _ page pages h
    (λ full. get_prefix page.items (slots_in pages) k (omega arith))
    (λ short none. ap (λ xs. slice_get (page.items ++ xs) k) none ∙ ap (λ xs. slice_get xs k) (append-nil page.items))

pub no_page : (pages : List Listed) (i r : ℕ) → ArePages pages → slice_get pages i ≡ None → slice_get (slots_in pages) (i * 1024 + r) ≡ None
no_page [] i r h e = refl
no_page (page ∷ pages) zero r h e = cc
no_page (page ∷ pages) (suc i) r h e =
    let far : suc i * 1024 + r ≡ 1024 + (i * 1024 + r) = omega arith in
    ap (slice_get (slots_in (page ∷ pages))) far ∙ past_page page pages (i * 1024 + r) h ∙ no_page pages i r h.3 e

pub in_page : (pages : List Listed) (page : Listed) (i r : ℕ) → r < 1024 → ArePages pages → slice_get pages i ≡ Some page → slice_get (slots_in pages) (i * 1024 + r) ≡ slice_get page.items r
in_page [] page i r lt h e = cc
in_page (first ∷ pages) page zero r lt h e =
    let same : first ≡ page = cc in
    let near : 0 * 1024 + r ≡ r = omega arith in
    ap (slice_get (slots_in (first ∷ pages))) near ∙ first_page first pages r lt h ∙ ap (λ (p : Listed). slice_get p.items r) same
in_page (first ∷ pages) page (suc i) r lt h e =
    let far : suc i * 1024 + r ≡ 1024 + (i * 1024 + r) = omega arith in
    ap (slice_get (slots_in (first ∷ pages))) far ∙ past_page first pages (i * 1024 + r) h ∙ in_page pages page i r lt h.3 e

pub most_slots : (pages : List Listed) → ArePages pages → length (slots_in pages) ≤ length pages * 1024
most_slots [] h = omega arith
most_slots (page ∷ pages) h =
    let rest = most_slots pages h.3 in
    let long = length-append page.items (slots_in pages) in
    let most = h.1 in omega (arith, long)

pub page_more : (pages : List Listed) (page : Listed) → ArePages pages → page.items ≡ [] → 1024 ≤ page.capacity → ArePages (pages ++ page ∷ []) × (slots_in (pages ++ page ∷ []) ≡ slots_in pages)
page_more [] page h none room =
    let short : length page.items ≡ 0 = ap length none in
    ((room, omega arith, (λ lt. refl), tt), append-nil page.items ∙ none)
page_more (first ∷ pages) page h none room =
    let rest = page_more pages page h.3 none room in
    ((h.0, h.1, (λ lt. rest.1 ∙ h.2 lt), rest.0), ap (λ xs. first.items ++ xs) rest.1)

-- where no slot is nothing is taken out
pub past_end : (xs : List ℕ) (i : ℕ) → length xs ≤ i → remove xs i ≡ xs
past_end [] zero le = refl
past_end [] (suc i) le = refl
past_end (x ∷ xs) zero le = absurd (omega arith)
past_end (x ∷ xs) (suc i) le = ap (λ ys. x ∷ ys) (past_end xs i (omega arith))

module _ (page : Listed) (pages rest : List Listed) (place : ℕ) (h : ArePages (page ∷ pages)) where
  -- a slot that goes into a later page
  pub inserted_later : (slot : ℕ) → length page.items ≡ 1024 → 1024 ≤ place → ArePages rest → slots_in rest ≡ insert (slots_in pages) (place - 1024) slot
      → ArePages (page ∷ rest) × (slots_in (page ∷ rest) ≡ insert (slots_in (page ∷ pages)) place slot)
  inserted_later slot full le after is = (
    (h.0, h.1, (λ lt. absurd (omega arith)), after),
    ap (λ xs. page.items ++ xs) is ∙ sym (insert-append_right page.items (slots_in pages) 1024 place slot full le),
  )

  -- a slot that is taken out of a later page
  pub removed_later : 1024 ≤ place → ArePages rest → slots_in rest ≡ remove (slots_in pages) (place - 1024) → ArePages (page ∷ rest) × (slots_in (page ∷ rest) ≡ remove (slots_in (page ∷ pages)) place)
  removed_later le after is =
      full_or_last _ page pages h
      (λ full. (
        (h.0, h.1, (λ lt. absurd (omega arith)), after),
        ap (λ xs. page.items ++ xs) is ∙ sym (remove-append_right page.items (slots_in pages) 1024 place full le),
      ))
      (λ short none.
      let still : slots_in rest ≡ [] = is ∙ ap (λ xs. remove xs (place - 1024)) none ∙ past_end [] (place - 1024) (omega arith) in
      let all : slots_in (page ∷ pages) ≡ page.items = ap (λ xs. page.items ++ xs) none ∙ append-nil page.items in (
        (h.0, h.1, (λ lt. still), after),
        ap (λ xs. page.items ++ xs) still ∙ append-nil page.items ∙ sym (past_end page.items place (omega arith)) ∙ sym (ap (λ xs. remove xs place) all),
      ))

-- the slots up to one place pass, and those from another on do not
abbrev pub Narrowed : (ℕ → Bool) → List ℕ → ℕ → ℕ → Type 0
Narrowed test slots low high = ((k d : ℕ) → k < low → test (get_or slots k d) ≡ true) × ((k d : ℕ) → high ≤ k → k < length slots → test (get_or slots k d) ≡ false)

module _ (test : ℕ → Bool) (slots : List ℕ) (parted : IsPartitionedBy test slots) where
  module _ (low high middle slot : ℕ) (h : Narrowed test slots low high) (there : slice_get slots middle ≡ Some slot) where
    pub passed : test slot ≡ true → Narrowed test slots (middle + 1) high
    passed e = (
      (λ k d lt.
          let within = slice_get_within slots middle slot there in
          let here : test (get_or slots middle d) ≡ true = ap test (get_or_from_slice_get slots middle slot d there) ∙ e in
          parted k middle d (omega arith) within here),
      h.1,
    )

    pub failed : test slot ≡ false → Narrowed test slots low middle
    failed e = (
      h.0,
      (λ k d le lt. by_test (test (get_or slots k d))
          (λ b.
          let here : test (get_or slots middle d) ≡ false = ap test (get_or_from_slice_get slots middle slot d there) ∙ e in
          let still = parted middle k d le lt b in cc)
          (λ b. b)),
    )

  -- where both places meet, so many slots pass
  pub met : (n : ℕ) → n ≤ length slots → Narrowed test slots n n → n ≡ prefix_len test slots
  met n le h = sym (prefix_len_is test slots n 0 le (λ k lt. h.0 k 0 lt) (λ lt. h.1 n 0 (omega arith) lt))

-- where there is a slot, one is found
pub not_there : (slots : List ℕ) (i : ℕ) → i < length slots → slice_get slots i ≡ None → ⊥
not_there [] i lt e = absurd (omega arith)
not_there (x ∷ slots) zero lt e = cc
not_there (x ∷ slots) (suc i) lt e = not_there slots i (omega arith) e

pub fewer : (slots : List ℕ) (i : ℕ) → length (remove slots i) + length (option_to_list (slice_get slots i)) ≡ length slots
fewer [] zero = refl
fewer [] (suc i) = refl
fewer (x ∷ slots) zero = omega arith
fewer (x ∷ slots) (suc i) = let rest = fewer slots i in omega (arith, rest)
