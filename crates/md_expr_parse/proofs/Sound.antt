-- What the machine reads, the grammar takes.
use Rattle.std.proofs.Common.{◌≡◌, ℕ, zero, suc, Bool, true, false, ◌&&◌, cond, List, [], ◌∷◌, ◌++◌, drop, Option, Some, None, refl, sym, ap, subst, append_assoc, append-nil}
use Rattle.std.specs.Prelude.{codes}
use Rattle.std.specs.Option.{option_map, option_and_then}
use Rattle.std.specs.Str.{bytes_eq}
use Rattle.std.specs.Cmp.Lexicographic.{same_text}
use Rattle.md_expr_tree.specs.declared.tree.Expr.{Expr}
use Rattle.md_expr_tree.specs.declared.tree.Op.{Op}
use Rattle.md_expr_tree.specs.declared.tree.Op.TheVariants as op
use Rattle.md_expr_tree.specs.declared.tree.Subject.{Subject}
use Rattle.md_expr_tree.specs.declared.tree.Subject.TheVariants as subject
use Rattle.md_expr_tree.specs.declared.tree.Literal.{Literal}
use Rattle.md_expr_tree.specs.declared.tree.Literal.TheVariants as literal
use Rattle.md_expr_tree.specs.declared.tree.Test.{Test}
use Rattle.md_expr_tree.specs.declared.tree.Test.TheVariants as test
use Rattle.md_expr_tree.specs.declared.token.Token.{Token}
use Rattle.md_expr_tree.specs.declared.token.Token.TheVariants as token
use Rattle.md_expr_tree.specs.declared.token.Item.{Item}
use Rattle.md_expr_tree.specs.declared.token.Item.TheVariants as item
use Rattle.md_expr_tree.specs.WellMade.{is_bound}
use Rattle.md_expr_tree.specs.Grammar.{IsSubject, name, star, equal, not_equal, IsBound, number, time, IsValue, words, bound, IsComparison, compare, present, range, all_of, any_of, IsUnit, comparison, group as in_group, not_group, IsAll, last_unit, and, IsAny, last_all, or, IsExpression, expression}
use Rattle.md_expr_parse.specs.declared.build.Level.{Level}
use Rattle.md_expr_parse.specs.Group.{ParsedItem, is_value, value_at, comparison_at, end_at, range_at, named_at, not_at, item_at, group}
use Rattle.md_expr_parse.specs.Machine.{closed, signed, run}

-- the tokens of an item
IsItem : List Token → Item → Type 0
IsItem ts (item.Test t) = IsComparison ts t
IsItem ts item.And = ts ≡ token.And ∷ []
IsItem ts item.Or = ts ≡ token.Or ∷ []
IsItem ts item.Open = ts ≡ token.Open ∷ []
IsItem ts item.OpenNot = ts ≡ token.Not ∷ token.Open ∷ []
IsItem ts item.Close = ts ≡ token.Close ∷ []

-- the tokens of items
AreItems : List Token → List Item → Type 0
AreItems ts [] = ts ≡ []
AreItems ts (i ∷ is) = (a b : List Token) × (ts ≡ a ++ b) × IsItem a i × AreItems b is

-- an item at the beginning, and the tokens behind it
record Begins (ts : List Token) (found : Item × ℕ) : Type 0 where
  prefix : List Token
  whole : ts ≡ prefix ++ drop (suc found.1) ts
  is : IsItem prefix found.0

begins : (ts prefix : List Token) (i : Item) (n : ℕ) (x : Item × ℕ) → IsItem prefix i → ts ≡ prefix ++ drop (suc n) ts → Some (i, n) ≡ Some x → Begins ts x
begins ts prefix i n x is whole e =
    let p : (i, n) ≡ x = cc in
    let at_n : Begins ts (i, n) = record { prefix = prefix; whole = whole; is = is } in
    subst (Begins ts) p at_n

tested : (t : Test) (ts prefix : List Token) (n : ℕ) (x : Item × ℕ) → IsComparison prefix t → ts ≡ prefix ++ drop (suc n) ts → Some (item.Test t, n) ≡ Some x → Begins ts x
unfolding IsItem
tested t ts prefix n x is whole e = begins ts prefix (item.Test t) n x is whole e

is_value_sound : (v : Literal) → is_value v ≡ true → IsValue v
is_value_sound (literal.Number a) e = bound number
is_value_sound (literal.Time a) e = bound time
is_value_sound (literal.Words (p ∷ ps) f m) e = words
is_value_sound (literal.Words [] f m) e = cc
is_value_sound literal.Present e = cc

compared : (s : Subject) (o : Op) (v : Literal) (t : Token) (ts : List Token) (x : Item × ℕ) (p : Bool) → is_value v ≡ p → IsSubject t s → cond p (Some (item.Test (test.Compare s o v), 2)) None ≡ Some x → Begins (t ∷ token.Op o ∷ token.Value v ∷ ts) x
compared s o v t ts x true f h e = tested _ _ (t ∷ token.Op o ∷ token.Value v ∷ []) 2 x (compare h (is_value_sound v f)) refl e
compared s o v t ts x false f h e = cc

value_sound : (s : Subject) (o : Op) (t : Token) (ts : List Token) (x : Item × ℕ) → IsSubject t s → value_at s o ts ≡ Some x → Begins (t ∷ token.Op o ∷ ts) x
value_sound s o t (token.Value v ∷ ts) x h e = compared s o v t ts x _ refl h e
value_sound s op.Equal t (token.Star ∷ ts) x h e = tested _ _ (t ∷ token.Op op.Equal ∷ token.Star ∷ []) 2 x (present h equal) refl e
value_sound s op.NotEqual t (token.Star ∷ ts) x h e = tested _ _ (t ∷ token.Op op.NotEqual ∷ token.Star ∷ []) 2 x (present h not_equal) refl e
value_sound s o t _ x h e = cc

comparison_sound : (s : Subject) (t : Token) (ts : List Token) (x : Item × ℕ) → IsSubject t s → comparison_at s ts ≡ Some x → Begins (t ∷ ts) x
comparison_sound s t (token.Op o ∷ ts) x h e = value_sound s o t ts x h e
comparison_sound s t _ x h e = cc

is_bound_sound : (a : Literal) → is_bound a ≡ true → IsBound a
is_bound_sound (literal.Number a) e = number
is_bound_sound (literal.Time a) e = time
is_bound_sound _ e = cc

ended : (n : List ℕ) (a b : Literal) (ts : List Token) (x : Item × ℕ) (p q : Bool) → is_bound a ≡ p → is_bound b ≡ q → cond (p && q) (Some (item.Test (test.Range n a b), 7)) None ≡ Some x → Begins (token.Name (codes "InRange") ∷ token.Open ∷ token.Name n ∷ token.Comma ∷ token.Value a ∷ token.Comma ∷ token.Value b ∷ token.Close ∷ ts) x
ended n a b ts x true true f g e =
    tested _ _ (token.Name (codes "InRange") ∷ token.Open ∷ token.Name n ∷ token.Comma ∷ token.Value a ∷ token.Comma ∷ token.Value b ∷ token.Close ∷ []) 7 x (range (is_bound_sound a f) (is_bound_sound b g)) refl e
ended n a b ts x true false f g e = cc
ended n a b ts x false q f g e = cc

end_sound : (n : List ℕ) (a b : Literal) (ts : List Token) (x : Item × ℕ) → end_at n a b ts ≡ Some x → Begins (token.Name (codes "InRange") ∷ token.Open ∷ token.Name n ∷ token.Comma ∷ token.Value a ∷ token.Comma ∷ token.Value b ∷ ts) x
end_sound n a b (token.Close ∷ ts) x e = ended n a b ts x _ _ refl refl e
end_sound n a b _ x e = cc

range_sound : (ts : List Token) (x : Item × ℕ) → range_at ts ≡ Some x → Begins (token.Name (codes "InRange") ∷ token.Open ∷ ts) x
range_sound (token.Name n ∷ token.Comma ∷ token.Value a ∷ token.Comma ∷ token.Value b ∷ ts) x e = end_sound n a b ts x e
range_sound _ x e = cc

in_range : (n : List ℕ) (ts : List Token) (x : Item × ℕ) (b : Bool) → b ≡ bytes_eq n (codes "InRange") → cond b (range_at ts) None ≡ Some x → Begins (token.Name n ∷ token.Open ∷ ts) x
in_range n ts x true is e = subst (λ m. Begins (token.Name m ∷ token.Open ∷ ts) x) (sym (same_text n (codes "InRange") is)) (range_sound ts x e)
in_range n ts x false is e = cc

named_sound : (n : List ℕ) (ts : List Token) (x : Item × ℕ) → named_at n ts ≡ Some x → Begins (token.Name n ∷ ts) x
named_sound n (token.Open ∷ ts) x e = in_range n ts x _ refl e
named_sound n ts x e = comparison_sound (subject.Named n) (token.Name n) ts x name e

not_sound : (ts : List Token) (x : Item × ℕ) → not_at ts ≡ Some x → Begins (token.Not ∷ ts) x
unfolding IsItem
not_sound (token.Open ∷ ts) x e = begins _ (token.Not ∷ token.Open ∷ []) item.OpenNot 1 x refl refl e
not_sound _ x e = cc

item_sound : (t : Token) (ts : List Token) (x : Item × ℕ) → item_at t ts ≡ Some x → Begins (t ∷ ts) x
unfolding IsItem
item_sound token.And ts x e = begins _ (token.And ∷ []) item.And 0 x refl refl e
item_sound token.Or ts x e = begins _ (token.Or ∷ []) item.Or 0 x refl refl e
item_sound token.Open ts x e = begins _ (token.Open ∷ []) item.Open 0 x refl refl e
item_sound token.Close ts x e = begins _ (token.Close ∷ []) item.Close 0 x refl refl e
item_sound token.Not ts x e = not_sound ts x e
item_sound token.Star ts x e = comparison_sound subject.Some token.Star ts x star e
item_sound (token.Name n) ts x e = named_sound n ts x e
item_sound _ ts x e = cc

-- the items that were found are those of the tokens
with_items : (t : Token) (ts : List Token) (i : Item) (k : ℕ) (o : Option (List Item)) (is : List Item) → Begins (t ∷ ts) (i, k) → ((js : List Item) → o ≡ Some js → AreItems (drop k ts) js) → option_map (λ js. i ∷ js) o ≡ Some is → AreItems (t ∷ ts) is
unfolding AreItems
with_items t ts i k None is b more e = cc
with_items t ts i k (Some js) is b more e =
    let p : i ∷ js ≡ is = cc in
    let whole : AreItems (t ∷ ts) (i ∷ js) = (b.prefix, drop k ts, b.whole, b.is, more js refl) in
    subst (AreItems (t ∷ ts)) p whole

found_sound : (t : Token) (ts : List Token) (is : List Item) (o : ParsedItem) → item_at t ts ≡ o → option_and_then (λ found. option_map (λ is. found.0 ∷ is) (group found.1 ts)) o ≡ Some is → ((k : ℕ) (js : List Item) → group k ts ≡ Some js → AreItems (drop k ts) js) → AreItems (t ∷ ts) is
found_sound t ts is None f e more = cc
found_sound t ts is (Some x) f e more = with_items t ts x.0 x.1 (group x.1 ts) is (item_sound t ts x f) (more x.1) e

group_sound : (k : ℕ) (ts : List Token) (is : List Item) → group k ts ≡ Some is → AreItems (drop k ts) is
unfolding AreItems
group_sound zero [] is e = let p : [] ≡ is = cc in subst (AreItems []) p refl
group_sound (suc k) [] is e = let p : [] ≡ is = cc in subst (AreItems []) p refl
group_sound zero (t ∷ ts) is e = found_sound t ts is (item_at t ts) refl e (λ k js. group_sound k ts js)
group_sound (suc k) (t ∷ ts) is e = group_sound k ts is e

-- ---- the machine

-- alls that are over, each with `||` behind it
data Begun : List Token → List Expr → Type 0 where
  nothing : Begun [] []
  more : {a b : List Token} {xs es : List Expr} → Begun a xs → IsAll b es → Begun (a ++ (b ++ token.Or ∷ [])) (xs ++ all_of es ∷ [])

-- units that are over, each with `&&` behind it
data Joined : List Token → List Expr → Type 0 where
  nothing : Joined [] []
  more : {a b : List Token} {es : List Expr} {e : Expr} → Joined a es → IsUnit b e → Joined (a ++ (b ++ token.And ∷ [])) (es ++ e ∷ [])

opener : Bool → List Token
opener false = token.Open ∷ []
opener true = token.Not ∷ token.Open ∷ []

-- what stands before the innermost level
data Outer : List Token → List Level → Type 0 where
  bottom : Outer [] []
  inside : {o a b : List Token} {outer : List Level} {l : Level} → Outer o outer → Begun a l.ors → Joined b l.ands → Outer (o ++ (a ++ (b ++ opener l.negated))) (l ∷ outer)

any_behind : {a : List Token} {xs : List Expr} → Begun a xs → (b : List Token) (ys : List Expr) → IsAny b ys → IsAny (a ++ b) (xs ++ ys)
any_behind nothing b ys h = h
any_behind (more {a} {b = c} {xs} {es} g u) b ys h =
    let whole = any_behind g (c ++ token.Or ∷ b) (all_of es ∷ ys) (or u h) in
    let p : (a ++ (c ++ token.Or ∷ [])) ++ b ≡ a ++ (c ++ token.Or ∷ b) = simp append_assoc in
    let q : (xs ++ all_of es ∷ []) ++ ys ≡ xs ++ all_of es ∷ ys = simp append_assoc in
    rw (p, q) whole

all_behind : {a : List Token} {xs : List Expr} → Joined a xs → (b : List Token) (ys : List Expr) → IsAll b ys → IsAll (a ++ b) (xs ++ ys)
all_behind nothing b ys h = h
all_behind (more {a} {b = c} {es} {e} g u) b ys h =
    let whole = all_behind g (c ++ token.And ∷ b) (e ∷ ys) (and u h) in
    let p : (a ++ (c ++ token.And ∷ [])) ++ b ≡ a ++ (c ++ token.And ∷ b) = simp append_assoc in
    let q : (es ++ e ∷ []) ++ ys ≡ es ++ e ∷ ys = simp append_assoc in
    rw (p, q) whole

-- everything since the innermost level began
level_ends : {a b u : List Token} {ors ands : List Expr} {x : Expr} → Begun a ors → Joined b ands → IsUnit u x → IsAny (a ++ (b ++ u)) (ors ++ all_of (ands ++ x ∷ []) ∷ [])
level_ends {a} {b} {u} {ors} {ands} {x} g j h = any_behind g (b ++ u) _ (last_all (all_behind j u (x ∷ []) (last_unit h)))

enclosed : (n : Bool) (ts : List Token) (es : List Expr) → IsAny ts es → IsUnit (opener n ++ (ts ++ token.Close ∷ [])) (signed n (any_of es))
unfolding opener
enclosed false ts es h = in_group h
enclosed true ts es h = not_group h

moved : {x y : List Token} {e : Expr} → x ≡ y → IsExpression x e → IsExpression y e
moved {x} {y} {e} p h = subst (λ z. IsExpression z e) p h

mutual
  unfolding AreItems IsItem opener

  want_sound : (is : List Item) {o a b : List Token} {outer : List Level} {ors ands : List Expr} (ts : List Token) (e : Expr) → Outer o outer → Begun a ors → Joined b ands → AreItems ts is → run false outer ors ands is ≡ Some e → IsExpression (o ++ (a ++ (b ++ ts))) e
  want_sound (item.Test t ∷ is) {o} {a} {b} ts e p g j h r =
      let q : o ++ (a ++ (b ++ (h.0 ++ h.1))) ≡ o ++ (a ++ (b ++ ts)) = ap (λ x. o ++ (a ++ (b ++ x))) (sym h.2) in
      moved q (have_sound is h.1 e p g j (comparison h.3) h.4 r)
  want_sound (item.Open ∷ is) {o} {a} {b} {outer} {ors} {ands} ts e p g j h r =
      let q : (o ++ (a ++ (b ++ token.Open ∷ []))) ++ h.1 ≡ o ++ (a ++ (b ++ ts)) = rw (h.2, h.3) (simp append_assoc) in
      let l : Level = record { ors = ors; ands = ands; negated = false } in
      moved q (want_sound is h.1 e (inside {l = l} p g j) nothing nothing h.4 r)
  want_sound (item.OpenNot ∷ is) {o} {a} {b} {outer} {ors} {ands} ts e p g j h r =
      let q : (o ++ (a ++ (b ++ token.Not ∷ token.Open ∷ []))) ++ h.1 ≡ o ++ (a ++ (b ++ ts)) = rw (h.2, h.3) (simp append_assoc) in
      let l : Level = record { ors = ors; ands = ands; negated = true } in
      moved q (want_sound is h.1 e (inside {l = l} p g j) nothing nothing h.4 r)
  want_sound _ ts e p g j h r = cc

  have_sound : (is : List Item) {o a b u : List Token} {outer : List Level} {ors ands : List Expr} {x : Expr} (ts : List Token) (e : Expr) → Outer o outer → Begun a ors → Joined b ands → IsUnit u x → AreItems ts is → run true outer ors (ands ++ x ∷ []) is ≡ Some e → IsExpression (o ++ (a ++ (b ++ (u ++ ts)))) e
  have_sound [] {a = a} {b = b} {u = u} {ors = ors} {ands = ands} {x = x} ts e bottom g j w h r =
      let p : closed ors (ands ++ x ∷ []) ≡ e = cc in
      let q : a ++ (b ++ u) ≡ a ++ (b ++ (u ++ ts)) = rw (h, append-nil) refl in
      moved q (subst (IsExpression (a ++ (b ++ u))) p (expression (level_ends g j w)))
  have_sound [] ts e (inside p pg pj) g j w h r = cc
  have_sound (item.And ∷ is) {o} {a} {b} {u} ts e p g j w h r =
      let q : o ++ (a ++ ((b ++ (u ++ token.And ∷ [])) ++ h.1)) ≡ o ++ (a ++ (b ++ (u ++ ts))) = rw (h.2, h.3) (simp append_assoc) in
      moved q (want_sound is h.1 e p g (more j w) h.4 r)
  have_sound (item.Or ∷ is) {o} {a} {b} {u} {outer} {ors} {ands} {x} ts e p g j w h r =
      let q : o ++ ((a ++ ((b ++ u) ++ token.Or ∷ [])) ++ ([] ++ h.1)) ≡ o ++ (a ++ (b ++ (u ++ ts))) = rw (h.2, h.3) (simp append_assoc) in
      moved q (want_sound is h.1 e p (more g (all_behind j u (x ∷ []) (last_unit w))) nothing h.4 r)
  have_sound (item.Close ∷ is) {a = a} {b = b} {u = u} ts e (inside {o} {a = a'} {b = b'} {outer} {l} p pg pj) g j w h r =
      let q : o ++ (a' ++ (b' ++ ((opener l.negated ++ ((a ++ (b ++ u)) ++ token.Close ∷ [])) ++ h.1))) ≡ (o ++ (a' ++ (b' ++ opener l.negated))) ++ (a ++ (b ++ (u ++ ts))) = rw (h.2, h.3) (simp append_assoc) in
      moved q (have_sound is h.1 e p pg pj (enclosed l.negated _ _ (level_ends g j w)) h.4 r)
  have_sound (item.Close ∷ is) ts e bottom g j w h r = cc
  have_sound _ ts e p g j w h r = cc

pub read_sound : (ts : List Token) (e : Expr) → option_and_then (run false [] [] []) (group 0 ts) ≡ Some e → IsExpression ts e
read_sound ts e r = go (group 0 ts) refl r
  where
    go : (o : Option (List Item)) → group 0 ts ≡ o → option_and_then (run false [] [] []) o ≡ Some e → IsExpression ts e
    go None f r = cc
    go (Some is) f r = want_sound is ts e bottom nothing nothing (group_sound 0 ts is f) r
