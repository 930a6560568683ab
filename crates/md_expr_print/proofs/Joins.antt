-- Members as they are written, one behind the other.
use Rattle.std.proofs.Common.{◌≡◌, ◌<◌, ℕ, suc, ◌+◌, Bool, true, false, List, [], ◌∷◌, ◌++◌, map, take, length, get_or, refl, sym, ap, ◌∙◌, subst, arith, append_assoc, append-nil}
use Rattle.std.proofs.Math.Seq.{take-suc}
use Rattle.md_expr_print.specs.Literals.{join, separator}

abbrev pub is_empty : List (List ℕ) → Bool
is_empty [] = true
is_empty (t ∷ ts) = false

-- the members that are written, and whether the next one is the first
pub record Written (between : List ℕ) (is_first : Bool) (before now : List ℕ) (done : List (List ℕ)) : Type 0 where
  pub whole : now ≡ before ++ join between done
  pub first : is_first ≡ is_empty done

join_more : (between t : List ℕ) (ts : List (List ℕ)) (x : List ℕ) → join between ((t ∷ ts) ++ x ∷ []) ≡ join between (t ∷ ts) ++ (between ++ x)
join_more between t [] x = refl
join_more between t (u ∷ ts) x =
    ap (λ l. t ++ (between ++ l)) (join_more between u ts x)
    ∙ ap (λ l. t ++ l) (sym (append_assoc between (join between (u ∷ ts)) (between ++ x)))
    ∙ sym (append_assoc t (between ++ join between (u ∷ ts)) (between ++ x))

pub one_more : (between : List ℕ) (r : Bool) (before now next : List ℕ) (done : List (List ℕ)) (x : List ℕ) → Written between r before now done → next ≡ (now ++ separator r between) ++ x → Written between false before next (done ++ x ∷ [])
one_more between r before now next [] x w e = record {
  whole = e ∙ ap (λ b. (now ++ separator b between) ++ x) w.first ∙ ap (λ n. (n ++ []) ++ x) w.whole ∙ rw (append-nil, append-nil) refl;
  first = refl;
}
one_more between r before now next (t ∷ done) x w e = record {
  whole = e ∙ ap (λ b. (now ++ separator b between) ++ x) w.first ∙ ap (λ n. (n ++ between) ++ x) w.whole
      ∙ append_assoc (before ++ join between (t ∷ done)) between x ∙ append_assoc before (join between (t ∷ done)) (between ++ x)
      ∙ ap (λ l. before ++ l) (sym (join_more between t done x));
  first = refl;
}

map_more : {A B : Type 0} (f : A → B) (xs : List A) (x : A) → map f (xs ++ x ∷ []) ≡ map f xs ++ f x ∷ []
map_more f [] x = refl
map_more f (y ∷ ys) x = ap (λ l. f y ∷ l) (map_more f ys x)

-- past one member of some texts
module _ {A : Type 0} (f : A → List ℕ) (between : List ℕ) (before : List ℕ) (xs : List A) where
  pub turned : (r : Bool) (now next : List ℕ) (i : ℕ) (x : A) → Written between r before now (map f (take i xs)) → i < length xs → x ≡ get_or xs i x → next ≡ (now ++ separator r between) ++ f x → Written between false before next (map f (take (i + 1) xs))
  turned r now next i x w h is e =
      let q : i + 1 ≡ suc i = omega arith in
      let p : take i xs ++ x ∷ [] ≡ take (i + 1) xs = sym (ap (λ n. take n xs) q ∙ take-suc xs i x h ∙ ap (λ y. take i xs ++ y ∷ []) (sym is)) in
      let m : map f (take i xs) ++ f x ∷ [] ≡ map f (take (i + 1) xs) = sym (map_more f (take i xs) x) ∙ ap (map f) p in
      subst (λ (l : List (List ℕ)). Written between false before next l) m (one_more between r before now next (map f (take i xs)) (f x) w e)

map_twice : {A B C : Type 0} (g : B → C) (f : A → B) (xs : List A) → map g (map f xs) ≡ map (λ x. g (f x)) xs
map_twice g f [] = refl
map_twice g f (x ∷ xs) = ap (λ l. g (f x) ∷ l) (map_twice g f xs)

-- all members of some texts
pub all_written : {A B : Type 0} (g : B → List ℕ) (f : A → B) (between : List ℕ) (r : Bool) (before now : List ℕ) (xs ys : List A) → Written between r before now (map (λ x. g (f x)) ys) → ys ≡ xs → now ≡ before ++ join between (map g (map f xs))
all_written g f between r before now xs ys w e = w.whole ∙ ap (λ l. before ++ join between (map (λ x. g (f x)) l)) e ∙ ap (λ l. before ++ join between l) (sym (map_twice g f xs))
