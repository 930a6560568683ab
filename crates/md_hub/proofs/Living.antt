-- Live queries with their bases' tables, beside the same queries without.
use Rattle.std.proofs.Common.{◌≡◌, ℕ, suc, Bool, true, false, arith, List, [], ◌∷◌, ◌++◌, map, filter, length, refl, sym, ap, ◌∙◌, subst}
use Rattle.std.specs.Prelude.{◌==◌, is_some}
use Rattle.std.specs.Option.{option_map}
use Rattle.std.specs.List.{AllByRecursion, IsDistinct}
use Rattle.std.proofs.lemmas.Map.Keys.{IsDistinct-head, IsDistinct-tail, IsDistinct-cons}
use Rattle.md_world.specs.declared.Row.{Row}
use Rattle.md_world.proofs.Lookups.{by_test}
use Rattle.md_machine.specs.Laws.{same_key}
use Rattle.md_machine.specs.States.{Query, is_query, query_at, with_query, without_query, queries_of}
use Rattle.md_store.specs.Places.{Place}
use Rattle.md_hub.specs.Pinned.{AreMade}
use Rattle.md_hub.specs.Sound.{IsFollowing}
use Rattle.md_hub.specs.States.{with_table, with_tables}

module _ (places : List Place) where
  -- the query of a client and a number
  pub at_tables : (qs : List Query) (c n : ℕ) → query_at (with_tables places qs) c n ≡ option_map (with_table places) (query_at qs c n)
  at_tables [] c n = refl
  at_tables (q ∷ qs) c n = by_test (is_query c n q) (λ e. rw e refl) (λ e. rw e (at_tables qs c n))

  pub set_tables : (qs : List Query) (new : Query) → with_query (with_tables places qs) (with_table places new) ≡ with_tables places (with_query qs new)
  set_tables [] new = refl
  set_tables (q ∷ qs) new =
      by_test (is_query new.client new.number q)
      (λ e. rw e refl)
      (λ e. rw e (ap (λ rest. with_table places q ∷ rest) (set_tables qs new)))

  pub out_tables : (qs : List Query) (c n : ℕ) → with_tables places (without_query qs c n) ≡ without_query (with_tables places qs) c n
  out_tables [] c n = refl
  out_tables (q ∷ qs) c n =
      by_test (is_query c n q)
      (λ e. rw e (out_tables qs c n))
      (λ e. rw e (ap (λ rest. with_table places q ∷ rest) (out_tables qs c n)))

  pub more_tables : (qs : List Query) (new : Query) → with_tables places (qs ++ new ∷ []) ≡ with_tables places qs ++ with_table places new ∷ []
  more_tables [] new = refl
  more_tables (q ∷ qs) new = ap (λ rest. with_table places q ∷ rest) (more_tables qs new)

  pub count_tables : (qs : List Query) (c : ℕ) → queries_of (with_tables places qs) c ≡ queries_of qs c
  count_tables [] c = refl
  count_tables (q ∷ qs) c = by_test (q.client == c) (λ e. rw e (ap suc (count_tables qs c))) (λ e. rw e (count_tables qs c))

  apart_tables : (q : Query) (qs : List Query) → AllByRecursion (λ x. same_key (with_table places q) x ≡ false) (with_tables places qs) → AllByRecursion (λ x. same_key q x ≡ false) qs
  apart_tables q [] h = tt
  apart_tables q (x ∷ qs) h = (h.0, apart_tables q qs h.1)

  -- distinct clients and numbers
  pub keys_tables : (qs : List Query) → IsDistinct same_key (with_tables places qs) → IsDistinct same_key qs
  unfolding IsDistinct
  keys_tables [] h = tt
  keys_tables (q ∷ qs) h =
      IsDistinct-cons same_key q qs (apart_tables q qs (IsDistinct-head same_key (with_table places q) (with_tables places qs) h)) (keys_tables qs (IsDistinct-tail same_key (with_table places q) (with_tables places qs) h))

  -- versions that queries speak of are made
  pub made_by_now : (version : ℕ) (table : List Row) (qs : List Query) → AllByRecursion (IsFollowing version table) (with_tables places qs) → AreMade version qs
  made_by_now version table [] h = tt
  made_by_now version table (q ∷ qs) h = let few = h.0.few in (omega arith, made_by_now version table qs h.1)

-- where no query of the client and number is there, none is taken out
pub out_none : (qs : List Query) (c n : ℕ) → is_some (query_at qs c n) ≡ false → without_query qs c n ≡ qs
out_none [] c n h = refl
out_none (q ∷ qs) c n h =
    by_test (is_query c n q)
    (λ e. absurd (some_false (rw e at h)))
    (λ e. rw e (ap (λ rest. q ∷ rest) (out_none qs c n (rw e at h))))
  where
    some_false : true ≡ false → ⊥
    some_false h = cc
