-- What an update of a map at one key makes of what the map has at each key.
use Rattle.std.proofs.Common.{◌≡◌, Bool, true, false, cond, [], refl, ◌∙◌, ap, subst}
use Rattle.std.specs.Prelude.{Option, None, Some}
use Rattle.std.specs.declared.cmp.Ordering.{Ordering}
use Rattle.std.specs.Ordering.{is_eq}
use Rattle.std.specs.BTreeMap.{BTreeMap, get}
use Rattle.std.proofs.lemmas.Bool.{false≢true}
use Rattle.md_world.proofs.Lookups.{by_test}
use Rattle.md_index.specs.States.{written}

pub nothing : {K X : Type 0} (R : K → K → Ordering) (m : BTreeMap K X) → m.entries ≡ [] → (q : K) → get R m q ≡ None
nothing R m e q = cc

pub unwritten : (flag : Bool) (s : Option Bool) → s ≡ written false flag s
unwritten flag None = refl
unwritten flag (Some old) = refl

-- where a relation holds of what the key had and has, and of what stays, it holds at each key
pub updated : {K X : Type 0} (R : K → K → Ordering) → ((a b : K) → is_eq (R a b) ≡ true → a ≡ b) → (m n : BTreeMap K X) (k : K) (old new : Option X)
    → get R m k ≡ old → ((q : K) → get R n q ≡ cond (is_eq (R k q)) new (get R m q))
    → (P : Bool → Option X → Option X → Type 0) → P true old new → ((o : Option X) → P false o o) → (q : K) → P (is_eq (R k q)) (get R m q) (get R n q)
updated R exact m n k old new had update P here there q =
    by_test (is_eq (R k q))
    (λ e.
    let same : k ≡ q = exact k q e in
    let before : get R m q ≡ old = subst (λ r. get R m r ≡ old) same had in
    let now : get R n q ≡ new = update q ∙ ap (λ b. cond b new (get R m q)) e in
    rw (e, before, now) here)
    (λ e.
    let now : get R n q ≡ get R m q = update q ∙ ap (λ b. cond b new (get R m q)) e in
    rw (e, now) (there (get R m q)))

-- where a key has nothing and all stays
pub stayed : {K X : Type 0} (R : K → K → Ordering) → ((a b : K) → is_eq (R a b) ≡ true → a ≡ b) → (m : BTreeMap K X) (k : K)
    → get R m k ≡ None → (P : Bool → Option X → Type 0) → P true None → ((o : Option X) → P false o) → (q : K) → P (is_eq (R k q)) (get R m q)
stayed R exact m k had P here there q =
    by_test (is_eq (R k q))
    (λ e.
    let before : get R m q ≡ None = subst (λ r. get R m r ≡ None) (exact k q e) had in
    rw (e, before) here)
    (λ e. rw e (there (get R m q)))

-- the same for a relation that the key is part of
pub updated_at : {K X : Type 0} (R : K → K → Ordering) → ((a b : K) → is_eq (R a b) ≡ true → a ≡ b) → (m n : BTreeMap K X) (k : K) (old new : Option X)
    → get R m k ≡ old → ((q : K) → get R n q ≡ cond (is_eq (R k q)) new (get R m q))
    → (P : K → Option X → Option X → Type 0) → P k old new → ((q : K) (o : Option X) → P q o o) → (q : K) → P q (get R m q) (get R n q)
updated_at R exact m n k old new had update P here there q =
    by_test (is_eq (R k q))
    (λ e.
    let same : k ≡ q = exact k q e in
    let before : get R m q ≡ old = subst (λ r. get R m r ≡ old) same had in
    let now : get R n q ≡ new = update q ∙ ap (λ b. cond b new (get R m q)) e in
    rw (before, now) (subst (λ r. P r old new) same here))
    (λ e.
    let now : get R n q ≡ get R m q = update q ∙ ap (λ b. cond b new (get R m q)) e in
    rw now (there q (get R m q)))
