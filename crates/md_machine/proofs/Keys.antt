-- What a list of queries keeps when one is added, set or taken out.
use Rattle.std.proofs.Common.{◌≡◌, ℕ, suc, ◌+◌, ◌≤◌, Bool, true, false, cond, List, [], ◌∷◌, ◌++◌, refl, sym, ap, subst, arith}
use Rattle.std.specs.Prelude.{◌==◌, None, Some, filter}
use Rattle.std.specs.List.{AllByRecursion, IsDistinct}
use Rattle.md_world.proofs.Lookups.{by_test, some_inj}
use Rattle.md_world.proofs.Lists.{all_filter}
use Rattle.md_machine.specs.States.{Query, is_query, query_at, with_query, queries_of}
use Rattle.md_machine.specs.Laws.{same_key}
use Rattle.md_machine.proofs.Lists.{all_more}
use Rattle.md_machine.proofs.Queries.{key_of, own_key}

pub some_not_none : {A : Type 0} (x : A) → Some x ≡ None → ⊥
some_not_none x h = cc

-- what holds of each query holds with one set of which it holds
pub all_set : (P : Query → Type 0) (qs : List Query) (new : Query) → AllByRecursion P qs → P new → AllByRecursion P (with_query qs new)
all_set P [] new h one = tt
all_set P (x ∷ qs) new h one =
    by_test (is_query new.client new.number x)
    (λ e. rw e (one, h.1))
    (λ e. rw e (h.0, all_set P qs new h.1 one))

-- what holds of each query holds of one that is found
pub of_found : (P : Query → Type 0) (qs : List Query) (c n : ℕ) (q : Query) → AllByRecursion P qs → query_at qs c n ≡ Some q → P q
of_found P [] c n q h k = cc
of_found P (x ∷ qs) c n q h k =
    by_test (is_query c n x)
    (λ e. subst P (some_inj x q (rw e at k)) h.0)
    (λ e. of_found P qs c n q h.1 (rw e at k))

-- two queries have distinct keys in either order
key_sym_false : (a b : Query) → same_key a b ≡ false → same_key b a ≡ false
key_sym_false a b h =
    by_test (same_key b a)
    (λ e.
    let key = key_of b.client b.number a e in
    let same : same_key a b ≡ true =
    subst (λ c. is_query c a.number b ≡ true) (sym key.0) (subst (λ n. is_query b.client n b ≡ true) (sym key.1) (own_key b)) in
    absurd (not_both (same_key a b) same h))
    (λ e. e)
  where
    not_both : (t : Bool) → t ≡ true → t ≡ false → ⊥
    not_both t k l = cc

-- a query of another key is added
pub keys_more : (qs : List Query) (q : Query) → IsDistinct same_key qs → query_at qs q.client q.number ≡ None → IsDistinct same_key (qs ++ q ∷ [])
unfolding IsDistinct
keys_more [] q h none = (tt, tt)
keys_more (x ∷ qs) q h none =
    by_test (is_query q.client q.number x)
    (λ e. absurd (some_not_none x (rw e at none)))
    (λ e. (all_more (λ y. same_key x y ≡ false) qs q h.0 (key_sym_false q x e), keys_more qs q h.1 (rw e at none)))

-- a query is set in place of the one of its key
pub keys_set : (qs : List Query) (new : Query) → IsDistinct same_key qs → IsDistinct same_key (with_query qs new)
unfolding IsDistinct
keys_set [] new h = tt
keys_set (x ∷ qs) new h =
    by_test (is_query new.client new.number x)
    (λ e.
    let key = key_of new.client new.number x e in
    let others : AllByRecursion (λ y. same_key new y ≡ false) qs =
    subst (λ c. AllByRecursion (λ y. is_query c new.number y ≡ false) qs) key.0 (subst (λ n. AllByRecursion (λ y. is_query x.client n y ≡ false) qs) key.1 h.0) in
    rw e (others, h.1))
    (λ e. rw e (all_set (λ y. same_key x y ≡ false) qs new h.0 (key_sym_false new x e), keys_set qs new h.1))

-- queries are taken out
pub keys_out : (t : Query → Bool) (qs : List Query) → IsDistinct same_key qs → IsDistinct same_key (filter t qs)
unfolding IsDistinct
keys_out t [] h = tt
keys_out t (x ∷ qs) h =
    by_test (t x)
    (λ e. rw e (all_filter (λ y. same_key x y ≡ false) t qs h.0, keys_out t qs h.1))
    (λ e. rw e (keys_out t qs h.1))

-- how many queries a client has, with one more query
pub count_more : (qs : List Query) (q : Query) (c : ℕ) → queries_of (qs ++ q ∷ []) c ≡ queries_of qs c + cond (q.client == c) 1 0
count_more [] q c = by_test (q.client == c) (λ e. rw e refl) (λ e. rw e refl)
count_more (x ∷ qs) q c =
    let rest = count_more qs q c in by_test (x.client == c) (λ e. rw e (omega arith)) (λ e. rw e rest)

-- with one query set
pub count_set : (qs : List Query) (new : Query) (c : ℕ) → queries_of (with_query qs new) c ≡ queries_of qs c
count_set [] new c = refl
count_set (x ∷ qs) new c =
    by_test (is_query new.client new.number x)
    (λ e.
    let key = key_of new.client new.number x e in
    let same : (x.client == c) ≡ (new.client == c) = ap (λ d. d == c) key.0 in
    by_test (new.client == c) (λ k. rw (e, same, k) refl) (λ k. rw (e, same, k) refl))
    (λ e. by_test (x.client == c)
    (λ k. rw (e, k) (ap suc (count_set qs new c)))
    (λ k. rw (e, k) (count_set qs new c)))

-- with queries taken out
pub count_out : (t : Query → Bool) (qs : List Query) (c : ℕ) → queries_of (filter t qs) c ≤ queries_of qs c
count_out t [] c = omega arith
count_out t (x ∷ qs) c =
    let rest = count_out t qs c in
    by_test (t x)
    (λ e. by_test (x.client == c) (λ k. rw (e, k) (omega arith)) (λ k. rw (e, k) rest))
    (λ e. by_test (x.client == c) (λ k. rw (e, k) (omega arith)) (λ k. rw (e, k) rest))
