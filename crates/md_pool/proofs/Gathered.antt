-- What a seat that took in others has of theirs.
use Rattle.std.proofs.Common.{◌≡◌, ℕ, ◌+◌, ◌≤◌, ◌∙◌, List, [], ◌∷◌, ◌++◌, length, All, Option, Some, IfSome, option_to_list, sym, ap, subst, arith, append_assoc, length-append, ◌==◌, ◌<◌, if◌then◌else◌}
use Rattle.std.proofs.lemmas.List.Elements.{All-pop}
use Rattle.md_pool.specs.Claims.{Drawer, made_by, whole_share, total_of, times, once_below, EachDrawnOnce}
use Rattle.md_pool.specs.Rules.{Gathered}
use Rattle.md_pool.proofs.Moves.{total_append}

pub gathered_one : (s : Drawer) → Gathered (s ∷ []) s
gathered_one s = record { share = omega arith; made = omega arith; drawn = λ x. omega arith }

pub gathered_more : (taken : List Drawer) (s t u : Drawer) → Gathered taken s → u ≡ record { id = s.id; share = s.share + t.share; drawn = s.drawn ++ t.drawn } → Gathered (t ∷ taken) u
gathered_more taken s t u g is = subst (Gathered (t ∷ taken)) (sym is) record {
  share = omega (arith, g.share);
  made = omega (arith, g.made, length-append s.drawn t.drawn);
  drawn = λ x. (let d = total_append (λ y. if y == x then 1 else 0) s.drawn t.drawn in omega (arith, g.drawn x));
}

-- what holds of a list whose last element is popped
pub popped : (P : Drawer → Type 0) (xs ys : List Drawer) (r : Option Drawer) (s : Drawer) → xs ≡ ys ++ option_to_list r → r ≡ Some s → All P xs → P s × All P ys
popped P xs ys r s e is all =
    let a = All-pop P xs ys r e all in
    let own : IfSome (Some s) P = subst (λ (q : Option Drawer). IfSome q P) is a.1 in
    (own, a.0)

pub popped_is : (xs ys all taken : List Drawer) (r : Option Drawer) (s : Drawer) → xs ≡ ys ++ option_to_list r → r ≡ Some s → all ≡ xs ++ taken → all ≡ ys ++ s ∷ taken
popped_is xs ys all taken r s e is whole =
    let f : xs ≡ ys ++ s ∷ [] = e ∙ ap (λ (q : Option Drawer). ys ++ option_to_list q) is in
    whole ∙ ap (λ (zs : List Drawer). zs ++ taken) f ∙ append_assoc ys (s ∷ []) taken

-- the shares of some of the seats are at most those of all
pub shares_fit : (seats ys taken : List Drawer) (s t : Drawer) (whole : ℕ) → total_of (λ (d : Drawer). d.share) seats ≡ whole → seats ≡ ys ++ t ∷ taken → Gathered taken s → s.share + t.share ≤ whole
shares_fit seats ys taken s t whole total is g =
    let a : total_of (λ (d : Drawer). d.share) (ys ++ t ∷ taken) ≡ whole = ap (total_of (λ (d : Drawer). d.share)) (sym is) ∙ total in
    let b = total_append (λ (d : Drawer). d.share) ys (t ∷ taken) in
    omega (arith, g.share)

-- seats that have all shares are some
pub some_seat : (seats : List Drawer) → total_of (λ (d : Drawer). d.share) seats ≡ whole_share → 0 < length seats
some_seat [] whole = omega arith
some_seat (s ∷ seats) whole = omega arith

-- what a seat that took in all others drew was drawn by them
pub each_once : (seats : List Drawer) (s : Drawer) (made : ℕ) → Gathered seats s → length s.drawn ≡ made → ((x : ℕ) → times x s.drawn ≡ once_below x made) → EachDrawnOnce seats
each_once seats s made g len once x =
    let all : made ≡ total_of made_by seats = sym len ∙ g.made in
    sym (g.drawn x) ∙ once x ∙ ap (once_below x) all
