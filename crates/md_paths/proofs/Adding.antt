-- A path that is added stands at its rank.
use Rattle.std.proofs.Common.{◌≡◌, ℕ, zero, suc, ◌+◌, ◌<◌, ◌≤◌, Bool, true, false, List, [], ◌∷◌, ◌++◌, map, length, refl, sym, ap, ◌∙◌, subst, arith, length-append}
use Rattle.std.specs.Prelude.{None, ◌==◌}
use Rattle.std.specs.List.{AllByRecursion, list_any, prefix_len, insert}
use Rattle.std.proofs.Math.Numerals.{one-add}
use Rattle.std.proofs.lemmas.Bool.Decides.{nat_tests}
use Rattle.std.proofs.lemmas.List.Edits.{length-insert}
use Rattle.md_value.specs.Values.{PathBytes, is_same, is_before}
use Rattle.md_value.proofs.Orders.{before_trans, before_else_after}
use Rattle.md_world.proofs.Lookups.{by_test}
use Rattle.md_paths.specs.Tables.{number_in, path_in, stands_before, Ascend, AreSorted}
use Rattle.md_paths.proofs.Sorting.{IsBeforeAll, AreWithin, stands, number_none}

all_insert : {X : Type 0} (P : X → Type 0) (xs : List X) (k : ℕ) (x : X) → AllByRecursion P xs → P x → AllByRecursion P (insert xs k x)
all_insert P [] zero x h p = (p, tt)
all_insert P [] (suc k) x h p = (p, tt)
all_insert P (y ∷ xs) zero x h p = (p, h)
all_insert P (y ∷ xs) (suc k) x h p = (h.0, all_insert P xs k x h.1 p)

all_more : (n m : ℕ) (order : List ℕ) → n ≤ m → AllByRecursion (λ (number : ℕ). number < n) order → AllByRecursion (λ (number : ℕ). number < m) order
all_more n m [] le h = tt
all_more n m (k ∷ order) le h = let lt = h.0 in (omega arith, all_more n m order le h.1)

map_insert : {X Y : Type 0} (f : X → Y) (xs : List X) (k : ℕ) (x : X) → map f (insert xs k x) ≡ insert (map f xs) k (f x)
map_insert f [] zero x = refl
map_insert f [] (suc k) x = refl
map_insert f (y ∷ xs) zero x = refl
map_insert f (y ∷ xs) (suc k) x = ap (λ rest. f y ∷ rest) (map_insert f xs k x)

any_insert : (t : ℕ → Bool) (xs : List ℕ) (k x : ℕ) → t x ≡ true → list_any t (insert xs k x) ≡ true
any_insert t [] zero x h = rw h refl
any_insert t [] (suc k) x h = rw h refl
any_insert t (y ∷ xs) zero x h = rw h refl
any_insert t (y ∷ xs) (suc k) x h = by_test (t y) (λ b. rw b refl) (λ b. rw b (any_insert t xs k x h))

any_more : (t : ℕ → Bool) (xs : List ℕ) (k x : ℕ) → list_any t xs ≡ true → list_any t (insert xs k x) ≡ true
any_more t [] k x h = cc
any_more t (y ∷ xs) zero x h = by_test (t x) (λ b. rw b refl) (λ b. rw b h)
any_more t (y ∷ xs) (suc k) x h = by_test (t y) (λ b. rw b refl) (λ b. rw b (any_more t xs k x (rw b at h)))

-- no path is the same as this one
abbrev AreApart : PathBytes → List PathBytes → Type 0
AreApart path paths = AllByRecursion (λ other. is_same other path ≡ false) paths

before_all : (p q : PathBytes) (paths : List PathBytes) → is_before p q ≡ true → IsBeforeAll q paths → IsBeforeAll p paths
before_all p q [] b h = tt
before_all p q (r ∷ paths) b h = (before_trans p q r b h.0, before_all p q paths b h.1)

ascend_insert : (path : PathBytes) (paths : List PathBytes) → AreApart path paths → Ascend paths → Ascend (insert paths (prefix_len (λ other. is_before other path) paths) path)
ascend_insert path [] apart h = (tt, tt)
ascend_insert path (q ∷ paths) apart h =
    by_test (is_before q path)
    (λ b. rw (b, one-add) (all_insert (λ later. is_before q later ≡ true) paths (prefix_len (λ other. is_before other path) paths) path h.0 b, ascend_insert path paths apart.1 h.1))
    (λ b. let after = before_else_after q path apart.0 b in rw b ((after, before_all path q paths after h.0), h))

prefix_within : (test : ℕ → Bool) (xs : List ℕ) → prefix_len test xs ≤ length xs
prefix_within test [] = omega arith
prefix_within test (x ∷ xs) = let rest = prefix_within test xs in by_test (test x) (λ e. rw e (omega arith)) (λ e. rw e (omega arith))

module _ (keys : List PathBytes) (path : PathBytes) where
  path_before : (keys : List PathBytes) (n : ℕ) → n < length keys → path_in (keys ++ path ∷ []) n ≡ path_in keys n
  path_before [] n lt = absurd (omega arith)
  path_before (key ∷ keys) zero lt = refl
  path_before (key ∷ keys) (suc n) lt = path_before keys n (omega arith)

  path_last : (keys : List PathBytes) → path_in (keys ++ path ∷ []) (length keys) ≡ path
  path_last [] = refl
  path_last (key ∷ keys) = path_last keys

  paths_before : (order : List ℕ) → AreWithin keys order → map (path_in (keys ++ path ∷ [])) order ≡ map (path_in keys) order
  paths_before [] h = refl
  paths_before (n ∷ order) h = ap (λ (p : PathBytes). p ∷ map (path_in (keys ++ path ∷ [])) order) (path_before keys n h.0) ∙ ap (λ rest. path_in keys n ∷ rest) (paths_before order h.1)

  ranks : (order : List ℕ) → AreWithin keys order → prefix_len (stands_before keys path) order ≡ prefix_len (λ other. is_before other path) (map (path_in keys) order)
  ranks [] h = refl
  ranks (n ∷ order) h =
      let first = stands keys path n h.0 in
      by_test (is_before (path_in keys n) path)
      (λ b. rw (first ∙ b, b) (ap (λ k. 1 + k) (ranks order h.1)))
      (λ b. rw (first ∙ b, b) refl)

  apart : number_in keys path ≡ None → (order : List ℕ) → AreWithin keys order → AreApart path (map (path_in keys) order)
  apart absent [] h = tt
  apart absent (n ∷ order) h = (number_none keys path n absent h.0, apart absent order h.1)

  -- the numbers with the next one at its path's rank
  pub added : (order : List ℕ) (rank : ℕ) → AreSorted keys order → number_in keys path ≡ None → rank ≡ prefix_len (stands_before keys path) order → AreSorted (keys ++ path ∷ []) (insert order rank (length keys))
  added order rank h absent is =
      let size = length-append keys (path ∷ []) in
      let paths : map (path_in (keys ++ path ∷ [])) (insert order rank (length keys)) ≡ insert (map (path_in keys) order) rank path =
      map_insert (path_in (keys ++ path ∷ [])) order rank (length keys)
      ∙ ap (λ ps. insert ps rank (path_in (keys ++ path ∷ []) (length keys))) (paths_before order h.within)
      ∙ ap (λ (p : PathBytes). insert (map (path_in keys) order) rank p) (path_last keys) in
      let at : rank ≡ prefix_len (λ other. is_before other path) (map (path_in keys) order) = is ∙ ranks order h.within in
      let up : Ascend (insert (map (path_in keys) order) rank path) =
      subst (λ (k : ℕ). Ascend (insert (map (path_in keys) order) k path)) (sym at) (ascend_insert path (map (path_in keys) order) (apart absent order h.within) h.ascend) in
      record {
        count = let more = length-insert order rank (length keys) (omega (arith, is, prefix_within (stands_before keys path) order)) in let same = h.count in omega (arith, more);
        within = all_insert (λ (number : ℕ). number < length (keys ++ path ∷ [])) order rank (length keys) (all_more (length keys) (length (keys ++ path ∷ [])) order (omega arith) h.within) (omega arith);
        ascend = subst Ascend (sym paths) up;
        all = λ number lt. by_test (length keys == number)
            (λ b. any_insert (λ other. other == number) order rank (length keys) b)
            (λ b. let earlier : number < length keys = grind (arith, nat_tests) in any_more (λ other. other == number) order rank (length keys) (h.all number earlier));
      }
