-- Each step keeps what is known of the numbers drawn.
use Rattle.std.proofs.Common.{◌≡◌, ◌≢◌, ℕ, zero, suc, ◌+◌, ◌-◌, ◌<◌, ◌≤◌, ◌%◌, ◌==◌, List, [], ◌∷◌, ◌++◌, length, All, set, refl, sym, ap, ◌∙◌, subst, ⊎_elim, arith, length-append, if◌then◌else◌}
use Rattle.std.proofs.lemmas.Bool.Decides.{nat_tests}
use Rattle.std.proofs.lemmas.List.Elements.{All-append, All-push, All-weaker, All-nil}
use Rattle.std.specs.List.{slice_index}
use mathlib.Core.Option.{some, some-ne-none, some-injective}
use lib.ListN.{get_elem?}
use Rattle.atomic_table.proofs.Lists.{at_set, at_snoc, set_else, set_again}
use Rattle.atomic_table.specs.Table.{Me, Step, Act, keeps, Allows, Splits, Joins, Valid, carried_after}
use Rattle.md_pool.specs.declared.rule.Hand.{Hand}
use Rattle.md_pool.specs.Claims.{whole_share, total_of, times, once_below}
use Rattle.md_pool.specs.Rules.{hand, Fits, Given, Rules, Draws, Closes}

module _ {V : Type 0} where
  pub total_append : (f : V → ℕ) (xs ys : List V) → total_of f (xs ++ ys) ≡ total_of f xs + total_of f ys
  total_append f [] ys = omega arith
  total_append f (x ∷ xs) ys = let rest = total_append f xs ys in omega arith

  -- a sum after a change of one view
  pub sum_set : (f : V → ℕ) (views : List V) (id : ℕ) (v w : V) → get_elem? views id ≡ some v → total_of f (set views id w) + f v ≡ total_of f views + f w
  sum_set f [] id v w e = absurd (some-ne-none v (sym e))
  sum_set f (x ∷ xs) zero v w e = let same : f x ≡ f v = ap f (some-injective x v e) in omega arith
  sum_set f (x ∷ xs) (suc id) v w e = let rest = sum_set f xs id v w e in omega arith

  pub sums_le : (a b : V → ℕ) (views : List V) → ((id : ℕ) (v : V) → get_elem? views id ≡ some v → a v ≤ b v) → total_of a views ≤ total_of b views
  sums_le a b [] each = omega arith
  sums_le a b (x ∷ xs) each = let head : a x ≤ b x = each 0 x refl in let rest = sums_le a b xs (λ id. each (suc id)) in omega arith

  -- room at one view is room in all
  pub sums_room : (a b : V → ℕ) (views : List V) → ((id : ℕ) (v : V) → get_elem? views id ≡ some v → a v ≤ b v) → (id : ℕ) (v : V) → get_elem? views id ≡ some v → total_of a views + b v ≤ total_of b views + a v
  sums_room a b [] each id v e = absurd (some-ne-none v (sym e))
  sums_room a b (x ∷ xs) each zero v e =
      let p : a x ≡ a v = ap a (some-injective x v e) in let q : b x ≡ b v = ap b (some-injective x v e) in
      let rest = sums_le a b xs (λ id. each (suc id)) in omega arith
  sums_room a b (x ∷ xs) each (suc id) v e =
      let head : a x ≤ b x = each 0 x refl in let rest = sums_room a b xs (λ id. each (suc id)) id v e in omega arith

share_of : Hand → ℕ
share_of v = v.share

below_more : (n : ℕ) (ys : List ℕ) → All (λ y. y < n) ys → All (λ y. y < n + 1) ys
below_more n ys = All-weaker (λ y. y < n) (λ y. y < n + 1) (λ y h. omega arith) ys

fits_set : (n m : ℕ) (views : List Hand) (id : ℕ) (w : Hand) → ((j : ℕ) (u : Hand) → get_elem? views j ≡ some u → Fits m u) → Fits m w → (j : ℕ) (u : Hand) → get_elem? (set views id w) j ≡ some u → Fits m u
fits_set n m views id w others mine j u e =
    ⊎_elim (λ (t : (j ≡ id) × (w ≡ u)). subst (Fits m) t.1 mine) (λ (t : (j ≢ id) × (get_elem? views j ≡ some u)). others j u t.1) (at_set views id j w u e)

once_more : (x n : ℕ) → once_below x n + (if n == x then 1 else 0) ≡ once_below x (n + 1)
once_more x n = grind (arith, nat_tests)

drawn_once : (x n : ℕ) (ys : List ℕ) → times x (ys ++ n ∷ []) ≡ times x ys + (if n == x then 1 else 0)
drawn_once x n ys = omega (arith, total_append (λ y. if y == x then 1 else 0) ys (n ∷ []))

-- the word can still rise by one
room_left : (n : ℕ) (views : List Hand) (id : ℕ) (v : Hand) → (h : Given (n ∷ []) views) → get_elem? views id ≡ some v → length v.drawn < v.share → h.n + 1 ≤ whole_share
room_left n views id v h at room =
    let all = sums_room (λ (u : Hand). length u.drawn) (λ (u : Hand). u.share) views (λ j u e. (h.each j u e).0) id v at in
    omega (arith, all, h.count, h.shares)

pub drawn_given : (n : ℕ) (views : List Hand) (id : ℕ) (v : Hand) → Given (n ∷ []) views → get_elem? views id ≡ some v → length v.drawn < v.share → Given ((n + 1) % 18446744073709551616 ∷ []) (set views id (hand v.share (v.drawn ++ n ∷ [])))
drawn_given n views id v h at room =
    let w = hand v.share (v.drawn ++ n ∷ []) in
    let is : n ≡ h.n = ap (λ l. slice_index l 0) h.words_are in
    let left = room_left n views id v h at room in
    let len : length (v.drawn ++ n ∷ []) ≡ length v.drawn + 1 = length-append v.drawn (n ∷ []) in
    let wraps : (n + 1) % 18446744073709551616 ≡ h.n + 1 = omega arith in
    record {
      n = h.n + 1;
      words_are = ap (λ k. k ∷ []) wraps;
      shares = (let s = sum_set (λ (u : Hand). u.share) views id v w at in omega (arith, h.shares));
      count = (let s = sum_set (λ (u : Hand). length u.drawn) views id v w at in omega (arith, h.count));
      once = λ x.
          (let s = sum_set (λ (u : Hand). times x u.drawn) views id v w at in
          let d : times x w.drawn ≡ times x v.drawn + (if n == x then 1 else 0) = drawn_once x n v.drawn in
          let m : once_below x n + (if n == x then 1 else 0) ≡ once_below x (n + 1) = once_more x n in
          let o : total_of (λ (u : Hand). times x u.drawn) views ≡ once_below x n = h.once x ∙ ap (once_below x) (sym is) in
          let g : once_below x (n + 1) ≡ once_below x (h.n + 1) = ap (λ k. once_below x (k + 1)) is in
          omega arith);
      each = fits_set n (h.n + 1) views id w
          (λ j u e. let f = h.each j u e in (f.0, below_more h.n u.drawn f.1))
          (let f = h.each id v at in (omega arith, All-push (λ y. y < h.n + 1) v.drawn n (below_more h.n v.drawn f.1) (omega arith)));
    }

-- no view drew more numbers than all together
few_drawn : (n : ℕ) (views : List Hand) (id : ℕ) (v : Hand) → Given (n ∷ []) views → get_elem? views id ≡ some v → length v.drawn ≤ n
few_drawn n views id v h at =
    let is : n ≡ h.n = ap (λ l. slice_index l 0) h.words_are in
    let all = sums_room (λ (_ : Hand). 0) (λ (u : Hand). length u.drawn) views (λ j u e. omega arith) id v at in
    omega (arith, h.count)

pub draws : (slots id : ℕ) (me : Me (Unit {0}) Hand) (st : Step (Unit {0})) → length me.0.drawn < me.0.share → Allows Rules slots id me 0 (λ n. (n + 1) % 18446744073709551616) (Draws st me)
draws slots id me st room s h homes at word =
    let v = me.0 in
    let step : (n : ℕ) → s.words ≡ n ∷ [] → Given (n ∷ []) s.views → (w : Hand) × (a : Act (Unit {0})) × Valid s.homes me.1 a × Given (set (n ∷ []) 0 ((n + 1) % 18446744073709551616)) (set s.views id w) × Draws st me n (w, carried_after me.1 a) =
    λ n e g. (hand v.share (v.drawn ++ n ∷ []), keeps, tt, drawn_given n s.views id v g at room, (refl, subst (λ k. All (λ y. y < k) v.drawn) (sym (ap (λ l. slice_index l 0) g.words_are)) (g.each id v at).1, few_drawn n s.views id v g at)) in
    subst (λ ws. (w : Hand) × (a : Act (Unit {0})) × Valid s.homes me.1 a × Given (set ws 0 ((slice_index ws 0 + 1) % 18446744073709551616)) (set s.views id w) × Draws st me (slice_index ws 0) (w, carried_after me.1 a))
    (sym h.words_are) (step h.n h.words_are (subst (λ ws. Given ws s.views) h.words_are h))

snoc_total : {V : Type 0} (f : V → ℕ) (xs : List V) (y : V) → total_of f (xs ++ y ∷ []) ≡ total_of f xs + f y
snoc_total f xs y = let all = total_append f xs (y ∷ []) in omega arith

pub splits : (id : ℕ) (v : Hand) (share : ℕ) → share ≤ v.share - length v.drawn → Splits Rules id v (hand (v.share - share) v.drawn) (hand share [])
splits id v share room s h at =
    let left = hand (v.share - share) v.drawn in
    let right = hand share [] in
    let fits = h.each id v at in
    record {
      n = h.n;
      words_are = h.words_are;
      shares = (let a = sum_set (λ (u : Hand). u.share) s.views id v left at in let b = snoc_total (λ (u : Hand). u.share) (set s.views id left) right in omega (arith, h.shares, fits.0));
      count = (let a = sum_set (λ (u : Hand). length u.drawn) s.views id v left at in let b = snoc_total (λ (u : Hand). length u.drawn) (set s.views id left) right in omega (arith, h.count));
      once = λ x. (let a = sum_set (λ (u : Hand). times x u.drawn) s.views id v left at in let b = snoc_total (λ (u : Hand). times x u.drawn) (set s.views id left) right in omega (arith, h.once x));
      each = λ j u e. ⊎_elim
          (λ was. fits_set h.n h.n s.views id left h.each (omega (arith, fits.0), fits.1) j u was)
          (λ (new : right ≡ u). subst (Fits h.n) new (omega arith, All-nil (λ y. y < h.n)))
          (at_snoc (set s.views id left) right u j e);
    }

pub joins : (id : ℕ) (v : Hand) (other : ℕ) (w : Hand) → Joins Rules id v other w (hand (v.share + w.share) (v.drawn ++ w.drawn)) (hand 0 [])
joins id v other w s h at apart there =
    let both = hand (v.share + w.share) (v.drawn ++ w.drawn) in
    let spent = hand 0 [] in
    let views = set s.views id both in
    let was : get_elem? s.views other ≡ some w = sym (set_else s.views id other both apart) ∙ there in
    let mine = h.each id v at in
    let theirs = h.each other w was in
    let len = length-append v.drawn w.drawn in
    record {
      n = h.n;
      words_are = h.words_are;
      shares = (let a = sum_set (λ (u : Hand). u.share) s.views id v both at in let b = sum_set (λ (u : Hand). u.share) views other w spent there in omega (arith, h.shares));
      count = (let a = sum_set (λ (u : Hand). length u.drawn) s.views id v both at in let b = sum_set (λ (u : Hand). length u.drawn) views other w spent there in omega (arith, h.count));
      once = λ x. (let a = sum_set (λ (u : Hand). times x u.drawn) s.views id v both at in let b = sum_set (λ (u : Hand). times x u.drawn) views other w spent there in let c = total_append (λ y. if y == x then 1 else 0) v.drawn w.drawn in omega (arith, h.once x));
      each = fits_set h.n h.n views other spent
          (fits_set h.n h.n s.views id both h.each (omega (arith, mine.0, theirs.0), All-append (λ y. y < h.n) v.drawn w.drawn mine.1 theirs.1))
          (omega arith, All-nil (λ y. y < h.n));
    }

times_le : (x : ℕ) (ys : List ℕ) → times x ys ≤ length ys
times_le x [] = omega arith
times_le x (y ∷ ys) = let rest = times_le x ys in grind (arith, nat_tests)

-- where a view has the whole share, the others have none, and a sum over all is its own part
own_part : (f : Hand → ℕ) (views : List Hand) (id : ℕ) (v : Hand) → total_of (λ u. u.share) views ≡ v.share → ((j : ℕ) (u : Hand) → get_elem? views j ≡ some u → f u ≤ u.share) → get_elem? views id ≡ some v → f v ≡ total_of f views
own_part f views id v whole below at =
    let up = sums_room f (λ (u : Hand). u.share) views below id v at in
    let down = sums_room (λ (_ : Hand). 0) f views (λ j u e. omega arith) id v at in
    omega arith

pub closes : (slots id : ℕ) (me : Me (Unit {0}) Hand) (st : Step (Unit {0})) → Allows Rules slots id me 0 (λ n. n) (Closes st me)
closes slots id me st s h homes at word =
    let v = me.0 in
    let know : v.share ≡ whole_share → (length v.drawn ≡ h.n) × ((x : ℕ) → times x v.drawn ≡ once_below x h.n) =
    λ e. (
      own_part (λ (u : Hand). length u.drawn) s.views id v (h.shares ∙ sym e) (λ j u there. (h.each j u there).0) at ∙ h.count,
      λ x. own_part (λ (u : Hand). times x u.drawn) s.views id v (h.shares ∙ sym e) (λ j u there. omega (arith, times_le x u.drawn, (h.each j u there).0)) at ∙ h.once x,
    ) in
    let found : slice_index s.words 0 ≡ h.n = ap (λ ws. slice_index ws 0) h.words_are in
    let ws : set s.words 0 (slice_index s.words 0) ≡ s.words = ap (λ l. set l 0 (slice_index l 0)) h.words_are ∙ sym h.words_are in (
      v,
      keeps,
      tt,
      subst (λ vs. Given (set s.words 0 (slice_index s.words 0)) vs) (sym (set_again s.views id v at)) (subst (λ l. Given l s.views) (sym ws) h),
      (refl, subst (λ k. v.share ≡ whole_share → (length v.drawn ≡ k) × ((x : ℕ) → times x v.drawn ≡ once_below x k)) (sym found) know),
    )
