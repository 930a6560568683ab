-- Options that are taken in one by one, and what they say together.
use Rattle.std.proofs.Common.{◌≡◌, ℕ, ◌+◌, ◌==◌, nat_le, Bool, true, false, ◌&&◌, if◌then◌else◌, List, [], ◌∷◌, ◌++◌, length, Option, Some, None, is_some, slice_get, refl, ◌∙◌, ap, arith, append-nil, length-append}
use Rattle.std.specs.List.{filter_map}
use Rattle.std.proofs.Math.Bool.{and-true}
use Rattle.std.proofs.lemmas.Bool.Decides.{nat_tests}
use Rattle.std.proofs.lemmas.List.Elements.{filter_map-append}
use Rattle.std.proofs.lemmas.Bool.{and_parts}
use Rattle.md_world.specs.declared.order.SortKey.{SortKey}
use Rattle.md_script.specs.declared.options.Choice.{Choice}
use Rattle.md_script.specs.declared.options.Choice.TheVariants as choice
use Rattle.md_script.specs.declared.options.Options.{Options}
use Rattle.md_script.specs.Limits.{most_keys}
use Rattle.md_script.specs.Options.{scope_in, first_in, progress_in, update_in, ms_in, key_in, count_in, only_in, are_allowed, together, with_choice}

-- choices that are allowed, kind by kind
pub record Allowed (choices : List Choice) : Type 0 where
  pub scope : nat_le (count_in scope_in choices) 1 ≡ true
  pub first : nat_le (count_in first_in choices) 1 ≡ true
  pub progress : nat_le (count_in progress_in choices) 1 ≡ true
  pub update : nat_le (count_in update_in choices) 1 ≡ true
  pub ms : nat_le (count_in ms_in choices) 1 ≡ true
  pub keys : nat_le (count_in key_in choices) most_keys ≡ true

pub by_kind : (cs : List Choice) → are_allowed cs ≡ true → Allowed cs
by_kind cs h =
    let f = and_parts (nat_le (count_in scope_in cs) 1 && nat_le (count_in first_in cs) 1 && nat_le (count_in progress_in cs) 1 && nat_le (count_in update_in cs) 1 && nat_le (count_in ms_in cs) 1) (nat_le (count_in key_in cs) most_keys) h in
    let e = and_parts (nat_le (count_in scope_in cs) 1 && nat_le (count_in first_in cs) 1 && nat_le (count_in progress_in cs) 1 && nat_le (count_in update_in cs) 1) (nat_le (count_in ms_in cs) 1) f.0 in
    let d = and_parts (nat_le (count_in scope_in cs) 1 && nat_le (count_in first_in cs) 1 && nat_le (count_in progress_in cs) 1) (nat_le (count_in update_in cs) 1) e.0 in
    let c = and_parts (nat_le (count_in scope_in cs) 1 && nat_le (count_in first_in cs) 1) (nat_le (count_in progress_in cs) 1) d.0 in
    let b = and_parts (nat_le (count_in scope_in cs) 1) (nat_le (count_in first_in cs) 1) c.0 in
    record { scope = b.0; first = b.1; progress = c.1; update = d.1; ms = e.1; keys = f.1 }

all_six : (a b c d e f : Bool) → a ≡ true → b ≡ true → c ≡ true → d ≡ true → e ≡ true → f ≡ true → (a && b && c && d && e && f) ≡ true
all_six a b c d e f ha hb hc hd he hf = rw (ha, hb, hc, hd, he, hf) refl

-- fewer choices are allowed too

fewer : {A : Type 0} (kind : Choice → Option A) (most : ℕ) (xs ys : List Choice) → nat_le (count_in kind (xs ++ ys)) most ≡ true → nat_le (count_in kind xs) most ≡ true
fewer kind most xs ys h =
    let all : count_in kind (xs ++ ys) ≡ count_in kind xs + count_in kind ys = ap length (filter_map-append kind xs ys) ∙ length-append (filter_map kind xs) (filter_map kind ys) in
    grind (arith, nat_tests, all, h)

allowed_prefix : (xs ys : List Choice) → are_allowed (xs ++ ys) ≡ true → are_allowed xs ≡ true
allowed_prefix xs ys h =
    let a = by_kind (xs ++ ys) h in
    all_six _ _ _ _ _ _ (fewer scope_in 1 xs ys a.scope) (fewer first_in 1 xs ys a.first) (fewer progress_in 1 xs ys a.progress) (fewer update_in 1 xs ys a.update) (fewer ms_in 1 xs ys a.ms) (fewer key_in most_keys xs ys a.keys)

not_true : (b : Bool) → (b ≡ true → ⊥) → b ≡ false
not_true true h = absurd (h refl)
not_true false h = refl

-- choices that are not allowed stay so
pub refused_prefix : (xs ys : List Choice) → are_allowed xs ≡ false → are_allowed (xs ++ ys) ≡ false
refused_prefix xs ys h = not_true (are_allowed (xs ++ ys)) (λ all. let prefix = allowed_prefix xs ys all in cc)

-- one choice more

other_kind : {A : Type 0} (kind : Choice → Option A) (cs : List Choice) (c : Choice) → kind c ≡ None → filter_map kind (cs ++ c ∷ []) ≡ filter_map kind cs
other_kind kind cs c is = filter_map-append kind cs (c ∷ []) ∙ rw is (append-nil (filter_map kind cs))

this_kind : {A : Type 0} (kind : Choice → Option A) (cs : List Choice) (c : Choice) (x : A) → kind c ≡ Some x → filter_map kind (cs ++ c ∷ []) ≡ filter_map kind cs ++ x ∷ []
this_kind kind cs c x is = filter_map-append kind cs (c ∷ []) ∙ rw is refl

-- a choice of a kind that stands at most once
single : {A : Type 0} (made : Option A → Options) (xs : List A) (x : A) (b : Bool) → nat_le (length xs) 1 ≡ true → b ≡ nat_le (length (xs ++ x ∷ [])) 1
    → (if is_some (slice_get xs 0) then None else Some (made (Some x))) ≡ (if b then Some (made (slice_get (xs ++ x ∷ []) 0)) else None)
single made [] x b few is = rw is refl
single made (y ∷ []) x b few is = rw is refl
single made (y ∷ z ∷ ys) x b few is = absurd (grind (arith, nat_tests, few))

-- a key
more_keys : (made : List SortKey → Options) (keys : List SortKey) (key : SortKey) (b : Bool) → nat_le (length keys) most_keys ≡ true → b ≡ nat_le (length (keys ++ key ∷ [])) most_keys
    → (if length keys == most_keys then None else Some (made (keys ++ key ∷ []))) ≡ (if b then Some (made (keys ++ key ∷ [])) else None)
more_keys made keys key b few is =
    let longer : length (keys ++ key ∷ []) ≡ length keys + 1 = length-append keys (key ∷ []) in
    grind (arith, nat_tests, longer, few, is)

abbrev pub Taken : List Choice → Choice → Type 0
Taken cs c = with_choice (together cs) c ≡ (if are_allowed (cs ++ c ∷ []) then Some (together (cs ++ c ∷ [])) else None)

module _ (cs : List Choice) (h : Allowed cs) where
  scope_taken : (scope : List ℕ) → Taken cs (choice.In scope)
  scope_taken scope =
      let c = choice.In scope in
      rw (this_kind scope_in cs c scope refl, other_kind first_in cs c refl, other_kind progress_in cs c refl, other_kind update_in cs c refl, other_kind ms_in cs c refl, other_kind key_in cs c refl)
      (single (λ s. record { scope = s; first = only_in first_in cs; progress = only_in progress_in cs; update = only_in update_in cs; ms = only_in ms_in cs; keys = filter_map key_in cs })
      (filter_map scope_in cs) scope _ h.scope (rw (h.first, h.progress, h.update, h.ms, h.keys) (simp and-true)))

  first_taken : (k : ℕ) → Taken cs (choice.First k)
  first_taken k =
      let c = choice.First k in
      rw (other_kind scope_in cs c refl, this_kind first_in cs c k refl, other_kind progress_in cs c refl, other_kind update_in cs c refl, other_kind ms_in cs c refl, other_kind key_in cs c refl)
      (single (λ s. record { scope = only_in scope_in cs; first = s; progress = only_in progress_in cs; update = only_in update_in cs; ms = only_in ms_in cs; keys = filter_map key_in cs })
      (filter_map first_in cs) k _ h.first (rw (h.scope, h.progress, h.update, h.ms, h.keys) (simp and-true)))

  progress_taken : (k : ℕ) → Taken cs (choice.Progress k)
  progress_taken k =
      let c = choice.Progress k in
      rw (other_kind scope_in cs c refl, other_kind first_in cs c refl, this_kind progress_in cs c k refl, other_kind update_in cs c refl, other_kind ms_in cs c refl, other_kind key_in cs c refl)
      (single (λ s. record { scope = only_in scope_in cs; first = only_in first_in cs; progress = s; update = only_in update_in cs; ms = only_in ms_in cs; keys = filter_map key_in cs })
      (filter_map progress_in cs) k _ h.progress (rw (h.scope, h.first, h.update, h.ms, h.keys) (simp and-true)))

  update_taken : (k : ℕ) → Taken cs (choice.Update k)
  update_taken k =
      let c = choice.Update k in
      rw (other_kind scope_in cs c refl, other_kind first_in cs c refl, other_kind progress_in cs c refl, this_kind update_in cs c k refl, other_kind ms_in cs c refl, other_kind key_in cs c refl)
      (single (λ s. record { scope = only_in scope_in cs; first = only_in first_in cs; progress = only_in progress_in cs; update = s; ms = only_in ms_in cs; keys = filter_map key_in cs })
      (filter_map update_in cs) k _ h.update (rw (h.scope, h.first, h.progress, h.ms, h.keys) (simp and-true)))

  ms_taken : (k : ℕ) → Taken cs (choice.Ms k)
  ms_taken k =
      let c = choice.Ms k in
      rw (other_kind scope_in cs c refl, other_kind first_in cs c refl, other_kind progress_in cs c refl, other_kind update_in cs c refl, this_kind ms_in cs c k refl, other_kind key_in cs c refl)
      (single (λ s. record { scope = only_in scope_in cs; first = only_in first_in cs; progress = only_in progress_in cs; update = only_in update_in cs; ms = s; keys = filter_map key_in cs })
      (filter_map ms_in cs) k _ h.ms (rw (h.scope, h.first, h.progress, h.update, h.keys) (simp and-true)))

  key_taken : (key : SortKey) → Taken cs (choice.By key)
  key_taken key =
      let c = choice.By key in
      rw (other_kind scope_in cs c refl, other_kind first_in cs c refl, other_kind progress_in cs c refl, other_kind update_in cs c refl, other_kind ms_in cs c refl, this_kind key_in cs c key refl)
      (more_keys (λ ks. record { scope = only_in scope_in cs; first = only_in first_in cs; progress = only_in progress_in cs; update = only_in update_in cs; ms = only_in ms_in cs; keys = ks })
      (filter_map key_in cs) key _ h.keys (rw (h.scope, h.first, h.progress, h.update, h.ms) refl))

-- a choice is taken in where it is allowed beside those before
pub taken : (cs : List Choice) (c : Choice) → are_allowed cs ≡ true → Taken cs c
taken cs (choice.In scope) h = scope_taken cs (by_kind cs h) scope
taken cs (choice.First k) h = first_taken cs (by_kind cs h) k
taken cs (choice.Progress k) h = progress_taken cs (by_kind cs h) k
taken cs (choice.Update k) h = update_taken cs (by_kind cs h) k
taken cs (choice.Ms k) h = ms_taken cs (by_kind cs h) k
taken cs (choice.By key) h = key_taken cs (by_kind cs h) key
