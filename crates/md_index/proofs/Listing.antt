-- The facts of a row.
use Rattle.std.proofs.Common.{◌≡◌, ℕ, zero, suc, ◌+◌, ◌<◌, Bool, true, false, not, cond, ◌&&◌, ◌||◌, List, [], ◌∷◌, ◌++◌, length, drop, refl, sym, ◌∙◌, ap, subst, arith}
use Rattle.std.specs.Prelude.{Option, Some, None, slice_get}
use Rattle.std.specs.Option.{option_map_or}
use Rattle.std.specs.Ordering.{nat_cmp, is_eq}
use Rattle.std.specs.Cmp.Lexicographic.{slice_cmp}
use Rattle.std.specs.List.{AllByRecursion}
use Rattle.std.proofs.lemmas.List.{append_assoc}
use Rattle.std.proofs.lemmas.List.Folds.{list_any-append}
use Rattle.std.proofs.lemmas.Bool.{false≢true, true≢false}
use Rattle.md_value.specs.Values.{is_same, is_before}
use Rattle.md_value.specs.Attrs.{Attr, IsAscending, IsAttrs, get, text_content}
use Rattle.md_value.specs.declared.value.Value.{Value}
use Rattle.md_value.proofs.Orders.{same_refl, same_exact, before_not_same, same_sym_false}
use Rattle.md_world.specs.Orders.{value_cmp}
use Rattle.md_world.specs.declared.Row.{Row}
use Rattle.md_world.proofs.Lookups.{by_test}
use Rattle.md_index.specs.declared.facts.Fact.{Fact}
use Rattle.md_index.specs.Order.{name_equiv}
use Rattle.md_index.specs.Facts.{values_named, has_value, attr_has, row_has, is_fact, has_fact, facts_at, facts_in}
use Rattle.md_index.proofs.Bools.{one_bool, and_false, or_nothing}
use Rattle.md_index.proofs.Exact.{exact_name, exact_value}

pub none_within : {X : Type 0} (xs : List X) (i : ℕ) → i < length xs → slice_get xs i ≡ None → ⊥
none_within [] i lt e = absurd (omega arith)
none_within (x ∷ xs) zero lt e = cc
none_within (x ∷ xs) (suc i) lt e = none_within xs i (omega arith) e

-- what is left from a place on is the item there and what is left after it
pub left_more : {X : Type 0} (xs : List X) (i : ℕ) (x : X) → slice_get xs i ≡ Some x → drop i xs ≡ x ∷ drop (i + 1) xs
left_more [] i x e = cc
left_more (y ∷ xs) zero x e = let same : y ≡ x = cc in ap (λ z. z ∷ xs) same
left_more (y ∷ xs) (suc i) x e = let next : suc i + 1 ≡ suc (i + 1) = omega arith in rw next (left_more xs i x e)

module _ (other : Option Row) (attrs : List Attr) (i : ℕ) (attr : Attr) (there : slice_get attrs i ≡ Some attr) where
  pub facts_pushed : (out more : List Fact) → more ≡ out ++ facts_at other attr.0 attr.1 → is_same attr.0 text_content ≡ false → out ++ facts_in other (drop i attrs) ≡ facts_in other attrs
      → more ++ facts_in other (drop (i + 1) attrs) ≡ facts_in other attrs
  facts_pushed out more is apart so_far =
      let rest = facts_in other (drop (i + 1) attrs) in
      let first : facts_in other (drop i attrs) ≡ facts_at other attr.0 attr.1 ++ rest =
      ap (facts_in other) (left_more attrs i attr there) ∙ ap (λ (b : Bool). (cond b [] (facts_at other attr.0 attr.1)) ++ rest) apart in
      ap (λ xs. xs ++ rest) is ∙ append_assoc out (facts_at other attr.0 attr.1) rest ∙ ap (λ xs. out ++ xs) (sym first) ∙ so_far

  pub facts_passed : (out : List Fact) → is_same attr.0 text_content ≡ true → out ++ facts_in other (drop i attrs) ≡ facts_in other attrs → out ++ facts_in other (drop (i + 1) attrs) ≡ facts_in other attrs
  facts_passed out same so_far =
      let rest = facts_in other (drop (i + 1) attrs) in
      let first : facts_in other (drop i attrs) ≡ rest =
      ap (facts_in other) (left_more attrs i attr there) ∙ ap (λ (b : Bool). (cond b [] (facts_at other attr.0 attr.1)) ++ rest) same in
      ap (λ xs. out ++ xs) (sym first) ∙ so_far

-- the two tests of names are one
same_name : (a b : List ℕ) → is_same a b ≡ is_eq (slice_cmp nat_cmp a b)
same_name a b =
    one_bool _ _
    (λ h. subst (λ c. is_eq (slice_cmp nat_cmp a c) ≡ true) (same_exact a b h) (name_equiv.refl a))
    (λ h. subst (λ c. is_same a c ≡ true) (exact_name a b h) (same_refl a))

-- a name that is before all others is not among them
get_none : (name : List ℕ) (attrs : List Attr) → AllByRecursion (λ (other : Attr). is_before name other.0 ≡ true) attrs → get attrs name ≡ None
get_none name [] after = refl
get_none name (attr ∷ attrs) after = rw (same_sym_false name attr.0 (before_not_same name attr.0 after.0)) (get_none name attrs after.1)

-- s and t say that the name and the value are those asked for, h that a later value is, a that the other row has it
kept : (s t h a : Bool) → (s ≡ true → t ≡ true → false ≡ a) → (s && t) || (s && (h && not a)) ≡ s && ((t || h) && not a)
kept false t h a k = refl
kept true false h a k = refl
kept true true h false k = refl
kept true true h true k = absurd (false≢true (k refl refl))

gone : (s t h a : Bool) → (s ≡ true → t ≡ true → true ≡ a) → s && (h && not a) ≡ s && ((t || h) && not a)
gone false t h a k = refl
gone true false h a k = refl
gone true true h true k = and_false h
gone true true h false k = absurd (true≢false (k refl refl))

regroup : (u h a : Bool) → u && (h && not a) ≡ (u && h) && not (u && a)
regroup true h a = refl
regroup false h a = refl

module _ (other : Option Row) (n : List ℕ) (v : Value) where
  -- the facts of one attribute
  at_fact : (name : List ℕ) (values : List Value) → has_fact (facts_at other name values) n v ≡ is_same name n && (has_value values v && not (attr_has other n v))
  at_fact name [] = sym (and_false (is_same name n))
  at_fact name (w ∷ values) =
      let s = is_same name n in
      let t = is_eq (value_cmp w v) in
      let h = has_value values v in
      let a = attr_has other n v in
      let alike : s ≡ true → t ≡ true → attr_has other name w ≡ a = λ e f. ap (attr_has other name) (exact_value w v f) ∙ ap (λ m. attr_has other m v) (same_exact name n e) in
      by_test (attr_has other name w)
      (λ e. rw e (at_fact name values ∙ gone s t h a (λ f g. sym e ∙ alike f g)))
      (λ e.
      rw e (ap (λ b. (b && t) || has_fact (facts_at other name values) n v) (sym (same_name name n)) ∙ ap (λ b. (s && t) || b) (at_fact name values)
      ∙ kept s t h a (λ f g. sym e ∙ alike f g)))

  -- the facts of one attribute, or none where it is the text content
  one_fact : (attr : Attr) → has_fact (cond (is_same attr.0 text_content) [] (facts_at other attr.0 attr.1)) n v
      ≡ is_same attr.0 n && (not (is_same n text_content) && (has_value attr.1 v && not (attr_has other n v)))
  one_fact attr =
      let there = has_value attr.1 v && not (attr_has other n v) in
      by_test (is_same attr.0 n)
      (λ e.
      let name : attr.0 ≡ n = same_exact attr.0 n e in
      by_test (is_same attr.0 text_content)
      (λ t.
      let u : is_same n text_content ≡ true = subst (λ m. is_same m text_content ≡ true) name t in
      rw (t, u, e) refl)
      (λ t.
      let u : is_same n text_content ≡ false = subst (λ m. is_same m text_content ≡ false) name t in
      rw (t, u) (at_fact attr.0 attr.1)))
      (λ e.
      by_test (is_same attr.0 text_content)
      (λ t. rw (t, e) refl)
      (λ t. rw t (at_fact attr.0 attr.1 ∙ ap (λ b. b && there) e ∙ sym (ap (λ b. b && (not (is_same n text_content) && there)) e))))

  facts_has : (attrs : List Attr) → IsAscending attrs → has_fact (facts_in other attrs) n v ≡ not (is_same n text_content) && (has_value (values_named attrs n) v && not (attr_has other n v))
  facts_has [] ascending = sym (and_false (not (is_same n text_content)))
  facts_has (attr ∷ attrs) ascending =
      let u = not (is_same n text_content) in
      let a = attr_has other n v in
      let one = cond (is_same attr.0 text_content) [] (facts_at other attr.0 attr.1) in
      let split : has_fact (facts_in other (attr ∷ attrs)) n v ≡ has_fact one n v || has_fact (facts_in other attrs) n v = list_any-append (is_fact n v) one (facts_in other attrs) in
      by_test (is_same attr.0 n)
      (λ e.
      let none : get attrs n ≡ None = subst (λ m. get attrs m ≡ None) (same_exact attr.0 n e) (get_none attr.0 attrs ascending.0) in
      let later : has_fact (facts_in other attrs) n v ≡ false =
      facts_has attrs ascending.1 ∙ ap (λ o. u && (has_value (option_map_or (λ values. values) o []) v && not a)) none ∙ and_false u in
      split ∙ ap (λ b. has_fact one n v || b) later ∙ or_nothing (has_fact one n v) ∙ one_fact attr ∙ ap (λ b. b && (u && (has_value attr.1 v && not a))) e
      ∙ sym (ap (λ b. u && (has_value (option_map_or (λ values. values) (cond b (Some attr.1) (get attrs n)) []) v && not a)) e))
      (λ e.
      split ∙ ap (λ b. b || has_fact (facts_in other attrs) n v) (one_fact attr ∙ ap (λ b. b && (u && (has_value attr.1 v && not a))) e) ∙ facts_has attrs ascending.1
      ∙ sym (ap (λ b. u && (has_value (option_map_or (λ values. values) (cond b (Some attr.1) (get attrs n)) []) v && not a)) e))

  pub facts_are : (row : Row) → IsAttrs row.attrs → has_fact (facts_in other row.attrs) n v ≡ row_has (Some row) n v && not (row_has other n v)
  facts_are row shape = facts_has row.attrs shape.ascending ∙ regroup (not (is_same n text_content)) (has_value (values_named row.attrs n) v) (attr_has other n v)

  pub none_are : false ≡ row_has None n v && not (row_has other n v)
  none_are = sym (ap (λ b. b && not (row_has other n v)) (and_false (not (is_same n text_content))))
